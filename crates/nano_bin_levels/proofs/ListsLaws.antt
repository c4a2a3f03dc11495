-- What is proved of Layers: a list.
use Rattle.std.specs.Prelude.{◌+◌, ◌≡◌, ◌<◌, ◌≤◌, ℕ, suc, refl, List, [], ◌∷◌, ◌++◌, map, length}
use Rattle.std.specs.List.{AllByRecursion, flat_map}
use Rattle.std.proofs.Common.{sym, subst, ap, arith}
use Rattle.nano_value.specs.Meaning.{AllOfList, Meaning, listed}
use Rattle.nano_meaning.proofs.MeaningLaws.{all_weaker, listed_injective}
use Rattle.nano_bin_bytes.specs.Codec.{Codec, Encoding}
use Rattle.nano_bin_bytes.specs.Scalars.{little_endian}
use Rattle.nano_bin_bytes.specs.Containers.{EncodesItems}
use Rattle.nano_bin.specs.ContainerCodecs.{list_codec}
use Rattle.nano_levels.specs.Layers.{greatest}
use Rattle.nano_levels.proofs.LayersLaws.{maps_same}
use Rattle.nano_bin_levels.specs.Layers.{IsWithin, Layer, Rises, IsReached}
use Rattle.nano_bin_levels.proofs.ChainsLaws.{climbs, reaches}

pub joined_same : {A : Type 0} (f h : A → List ℕ) (P : A → Type 0) → ((x : A) → P x → f x ≡ h x)
    → (xs : List A) → AllByRecursion P xs → flat_map f xs ≡ flat_map h xs
joined_same f h P same [] all = refl
joined_same f h P same (x ∷ xs) all =
    let head = same x all.0 in
    let tail = joined_same f h P same xs all.1 in
    λ i. head i ++ tail i

pub items_within : (s t : Encoding) → IsWithin s t → (xs : List Meaning) (a : List ℕ)
    → EncodesItems s.encodes a xs → EncodesItems t.encodes a xs
items_within s t w [] a h = h
items_within s t w (x ∷ xs) a h =
    (h.0, h.1, h.2, w h.0 x h.3, items_within s t w xs h.1 h.4)

-- items that are reached one by one are reached together
pub items_gathered : {A : Type 0} (c : ℕ → Codec A) → Rises c → (s : Encoding) → IsReached s c
    → (xs : List Meaning) (a : List ℕ) → EncodesItems s.encodes a xs
    → (n : ℕ) × EncodesItems (c n).encoding.encodes a xs
items_gathered c rises s reached [] a h = (0, h)
items_gathered c rises s reached (x ∷ xs) a h =
    let first = reached h.0 x h.3 in
    let rest = items_gathered c rises s reached xs h.1 h.4 in
    let n = first.0 + rest.0 in
    let head = reaches c rises first.0 rest.0 h.0 x first.1 in
    let up = climbs c rises first.0 rest.0 in
    let tail = items_within (c rest.0).encoding (c n).encoding up xs h.1 rest.1 in
    (n, (h.0, h.1, h.2, head, tail))

module _ {A B : Type 0} (p : Layer A B) where
  abbrev pub each_deep : (A → ℕ) → List B → ℕ
  each_deep d xs = greatest (map (p.deep d) xs)

  pub items_less : (d : A → ℕ) (n : ℕ) (xs : List B) → each_deep d xs ≤ n
      → AllByRecursion (p.All (λ y. d y < n)) xs
  items_less d n [] h = tt
  items_less d n (x ∷ xs) h =
      let first : p.deep d x ≤ n = omega (arith, h) in
      let rest : each_deep d xs ≤ n = omega (arith, h) in (
        p.weaker (λ y. d y < p.deep d x) (λ y. d y < n) (λ y less. omega (arith, less, first)) x
            (p.less d x),
        items_less d n xs rest,
      )

  pub items_mean : (f : Codec A) (xs : List B)
      → map (p.codec f).canonical.means xs ≡ map (p.means f.canonical.means) xs
  items_mean f [] = refl
  items_mean f (x ∷ xs) = λ i. p.means_is f x i ∷ items_mean f xs i

  pub items_legal : (f h : Codec A) (m : A → Meaning) (xs : List B)
      → AllByRecursion (p.All (λ y. f.encoding.legal (m y) → h.encoding.legal (m y))) xs
      → AllByRecursion (p.codec f).encoding.legal (map (p.means m) xs)
      → AllByRecursion (p.codec h).encoding.legal (map (p.means m) xs)
  items_legal f h m [] w s = tt
  items_legal f h m (x ∷ xs) w s = (p.legal_same f h m x w.0 s.0, items_legal f h m xs w.1 s.1)

  abbrev pub list_layer : Layer A (List B)
  list_layer = record {
    codec = λ f. list_codec (p.codec f);
    All = λ P xs. AllByRecursion (p.All P) xs;
    means = λ m xs. listed (map (p.means m) xs);
    deep = each_deep;
    weaker = λ P Q w xs h. all_weaker (p.All P) (p.All Q) (p.weaker P Q w) xs h;
    less = λ d xs. items_less d (each_deep d xs) xs (omega arith);
    means_is = λ f xs. ap listed (items_mean f xs);
    means_same = λ m n xs e.
        ap listed
        (maps_same (p.means m) (p.means n) (p.All (λ y. m y ≡ n y)) (p.means_same m n) xs e);
    written_same = λ f h xs e.
        ap (λ l. little_endian 8 (length xs) ++ l)
        (joined_same (p.codec f).canonical.written (p.codec h).canonical.written
        (p.All (λ y. f.canonical.written y ≡ h.canonical.written y)) (p.written_same f h) xs e);
    legal_same = λ f h m xs w s.
        let same = listed_injective _ _ s.is in
        let all = subst (AllOfList (p.codec f).encoding.legal) (sym same) s.has in
        record {
          part = map (p.means m) xs;
          has = record { count = all.count; items = items_legal f h m xs w all.items };
          is = refl;
        };
    rises = λ f h w bytes m e. record {
      part = e.part;
      has = record {
        head = e.has.head;
        tail = e.has.tail;
        whole = e.has.whole;
        count = e.has.count;
        items =
            items_within (p.codec f).encoding (p.codec h).encoding (p.rises f h w) e.part
            e.has.tail e.has.items;
      };
      is = e.is;
    };
    gathers = λ c rises h reached bytes m e.
        let found = items_gathered (λ n. p.codec (c n)) (λ n. p.rises (c n) (c (suc n)) (rises n))
        (p.codec h).encoding (p.gathers c rises h reached) e.part e.has.tail e.has.items in (
          found.0,
          record {
            part = e.part;
            has = record {
              head = e.has.head;
              tail = e.has.tail;
              whole = e.has.whole;
              count = e.has.count;
              items = found.1;
            };
            is = e.is;
          },
        );
    reads = p.reads;
    is_read = λ r f e. p.is_read r f e;
  }
