-- What is proved of Layers: maps, hashed or in order, whose values hold the inner ones.
use Rattle.std.specs.Prelude.{◌≡◌, ℕ, suc, refl, List, [], ◌∷◌, ◌++◌, map, length}
use Rattle.std.specs.Prelude.{Bool, true, false, cond}
use Rattle.std.specs.declared.cmp.Ordering.{Ordering}
use Rattle.std.specs.FinMap.Entries.{is_sorted}
use Rattle.std.specs.List.{AllByRecursion}
use Rattle.std.proofs.Common.{sym, subst, ap}
use Rattle.nano_value.specs.Meaning.{Meaning, paired, pair_map, BothOfPair, IsImage}
use Rattle.nano_meaning.proofs.MeaningLaws.{both_injective}
use Rattle.nano_value.specs.Order.{MeaningOrder, by_meaning}
use Rattle.nano_meaning.proofs.OrderLaws.{by_meaning-orders}
use Rattle.nano_value.specs.Ordered.{unordered, ordered_map_means}
use Rattle.nano_meaning.proofs.OrderedSetsLaws.{no_list_is_unordered}
use Rattle.nano_value.specs.Tables.{last_values, table_of, table_means, LegalMap}
use Rattle.nano_value.specs.Tables.{AllOfTable, ascending, IsOrderOf}
use Rattle.nano_meaning.proofs.TablesLaws.{all_of_last_values, table_means-injective}
use Rattle.nano_meaning.proofs.AscendingLaws.{all-ascending, table_of-ascending}
use Rattle.nano_bin_bytes.specs.Codec.{Codec}
use Rattle.nano_bin_bytes.specs.Scalars.{little_endian}
use Rattle.nano_bin_bytes.specs.Containers.{EncodesItems, EncodesPair, written_entries}
use Rattle.nano_bin_bytes.proofs.CodecLaws.{both_are_read}
use Rattle.nano_bin.specs.ContainerCodecs.{map_codec, ordered_map_codec, map_of}
use Rattle.nano_levels.proofs.EntriesLaws.{values-ascending}
use Rattle.nano_levels.proofs.LayersLaws.{maps_same}
use Rattle.nano_bin_levels.specs.Layers.{IsWithin, Layer, Rises, IsReached}
use Rattle.nano_bin_levels.proofs.LayersLaws.{next_layer}
use Rattle.nano_bin_levels.proofs.ListsLaws.{joined_same, items_within, items_gathered}
use Rattle.nano_bin_levels.proofs.ListsLaws.{each_deep, list_layer}

-- ---- entries as pairs

module _ (S R : List ℕ → Meaning → Type 0) where
  abbrev EncodesEntry : List ℕ → Meaning → Type 0
  EncodesEntry a = IsImage paired (EncodesPair S R a)

  pub as_pairs : (ps : List (Meaning × Meaning)) (a : List ℕ) → EncodesItems (EncodesPair S R) a ps
      → EncodesItems EncodesEntry a (map paired ps)
  as_pairs [] a h = h
  as_pairs (p ∷ ps) a h =
      (h.0, h.1, h.2, record { part = p; has = h.3; is = refl }, as_pairs ps h.1 h.4)

  pub as_entries : (ps : List (Meaning × Meaning)) (a : List ℕ)
      → EncodesItems EncodesEntry a (map paired ps) → EncodesItems (EncodesPair S R) a ps
  as_entries [] a h = h
  as_entries (p ∷ ps) a h =
      let same = both_injective p.0 p.1 h.3.part.0 h.3.part.1 h.3.is in
      let first = subst (EncodesPair S R h.0) (λ i. (sym same.0 i, sym same.1 i)) h.3.has in
      (h.0, h.1, h.2, first, as_entries ps h.1 h.4)

-- ---- what maps share

module _ {K A B : Type 0} (o : MeaningOrder) (k : Codec K) (read : k.is_decodable ≡ true)
    (p : Layer A B) where
  -- a key, and a value
  abbrev entry_layer : Layer A (K × B)
  entry_layer = next_layer k p

  abbrev by_keys : K → K → Ordering
  by_keys = by_meaning k.canonical.means o

  abbrev is_order : IsOrderOf k.canonical.means by_keys
  is_order = by_meaning-orders k.canonical.means o

  abbrev entry_means : (A → Meaning) → K × B → Meaning × Meaning
  entry_means m = pair_map k.canonical.means (p.means m)

  abbrev pub entries_all : (A → Type 0) → List (K × B) → Type 0
  entries_all P = AllByRecursion (entry_layer.All P)

  pub entries_mean : (f : Codec A) (es : List (K × B))
      → map (pair_map k.canonical.means (p.codec f).canonical.means) es
      ≡ map (entry_means f.canonical.means) es
  entries_mean f [] = refl
  entries_mean f (e ∷ es) = λ i. (k.canonical.means e.0, p.means_is f e.1 i) ∷ entries_mean f es i

  pub entries_same : (m n : A → Meaning) (es : List (K × B)) → entries_all (λ y. m y ≡ n y) es
      → map (entry_means m) es ≡ map (entry_means n) es
  entries_same m n es all =
      maps_same (entry_means m) (entry_means n) (entry_layer.All (λ y. m y ≡ n y))
      (λ e h. ap (λ x. (k.canonical.means e.0, x)) (p.means_same m n e.1 h)) es all

  pub entries_written : (f h : Codec A) (es : List (K × B))
      → entries_all (λ y. f.canonical.written y ≡ h.canonical.written y) es
      → written_entries o k.canonical (p.codec f).canonical es
      ≡ written_entries o k.canonical (p.codec h).canonical es
  entries_written f h es all =
      let Same : A → Type 0 = λ y. f.canonical.written y ≡ h.canonical.written y in
      let sorted = ascending by_keys es in
      ap (λ l. little_endian 8 (length sorted) ++ l)
      (joined_same (entry_layer.codec f).canonical.written (entry_layer.codec h).canonical.written
      (entry_layer.All Same) (entry_layer.written_same f h) sorted
      (values-ascending is_order.total (p.All Same) es all))

  -- ---- which are legal

  each_legal : (f h : Codec A) (m : A → Meaning) (es : List (K × B))
      → entries_all (λ y. f.encoding.legal (m y) → h.encoding.legal (m y)) es
      → AllByRecursion (BothOfPair k.encoding.legal (p.codec f).encoding.legal)
      (map (entry_means m) es)
      → AllByRecursion (BothOfPair k.encoding.legal (p.codec h).encoding.legal)
      (map (entry_means m) es)
  each_legal f h m [] w s = tt
  each_legal f h m (e ∷ es) w s =
      ((s.0.0, p.legal_same f h m e.1 w.0 s.0.1), each_legal f h m es w.1 s.1)

  pub table_legal : (f h : Codec A) (m : A → Meaning) (es : List (K × B))
      → entries_all (λ y. f.encoding.legal (m y) → h.encoding.legal (m y)) es
      → LegalMap k.encoding.legal (p.codec f).encoding.legal
      (table_means (table_of k.canonical.means (p.means m) es))
      → LegalMap k.encoding.legal (p.codec h).encoding.legal
      (table_means (table_of k.canonical.means (p.means m) es))
  table_legal f h m es w s =
      let Keys = k.encoding.legal in
      let Old = (p.codec f).encoding.legal in
      let New = (p.codec h).encoding.legal in
      let keys = k.canonical.means in
      let Rises : A → Type 0 = λ y. f.encoding.legal (m y) → h.encoding.legal (m y) in
      let sorted = ascending by_keys es in
      let old = subst (AllOfTable Keys Old) (sym (table_means-injective _ _ s.is)) s.has in
      let all = all-ascending by_keys keys is_order (p.means m) Keys Old es old in
      let each = values-ascending is_order.total (p.All Rises) es w in
      let new =
      all_of_last_values Keys New (map (entry_means m) sorted)
      (record { count = all.count; items = each_legal f h m sorted each all.items }) in
      record {
        part = table_of keys (p.means m) es;
        has = subst (AllOfTable Keys New)
            (table_of-ascending by_keys keys is_order (p.means m) es) new;
        is = refl;
      }

  -- ---- what is encoded

  abbrev Entries : Codec A → List ℕ → List (Meaning × Meaning) → Type 0
  Entries f = EncodesItems (EncodesPair k.encoding.encodes (p.codec f).encoding.encodes)

  entries_within : (f h : Codec A) → IsWithin f.encoding h.encoding
      → (ps : List (Meaning × Meaning)) (a : List ℕ) → Entries f a ps → Entries h a ps
  entries_within f h w ps a e =
      as_entries k.encoding.encodes (p.codec h).encoding.encodes ps a
      (items_within (entry_layer.codec f).encoding (entry_layer.codec h).encoding
      (entry_layer.rises f h w) (map paired ps) a
      (as_pairs k.encoding.encodes (p.codec f).encoding.encodes ps a e))

  entries_gathered : (c : ℕ → Codec A) → Rises c → (h : Codec A) → IsReached h.encoding c
      → (ps : List (Meaning × Meaning)) (a : List ℕ) → Entries h a ps
      → (n : ℕ) × Entries (c n) a ps
  entries_gathered c rises h reached ps a e =
      let found = items_gathered (λ n. entry_layer.codec (c n))
      (λ n. entry_layer.rises (c n) (c (suc n)) (rises n)) (entry_layer.codec h).encoding
      (entry_layer.gathers c rises h reached) (map paired ps) a
      (as_pairs k.encoding.encodes (p.codec h).encoding.encodes ps a e) in (
        found.0,
        as_entries k.encoding.encodes (p.codec (c found.0)).encoding.encodes ps a found.1,
      )

  pub map_rises : (f h : Codec A) → IsWithin f.encoding h.encoding
      → IsWithin (map_of k.encoding (p.codec f).encoding) (map_of k.encoding (p.codec h).encoding)
  map_rises f h w bytes m e = record {
    part = e.part;
    has = record {
      head = e.has.head;
      tail = e.has.tail;
      whole = e.has.whole;
      count = e.has.count;
      items = entries_within f h w e.part e.has.tail e.has.items;
    };
    is = e.is;
  }

  pub map_gathers : (c : ℕ → Codec A) → Rises c → (h : Codec A) → IsReached h.encoding c
      → (bytes : List ℕ) (m : Meaning)
      → (map_of k.encoding (p.codec h).encoding).encodes bytes m
      → (n : ℕ) × (map_of k.encoding (p.codec (c n)).encoding).encodes bytes m
  map_gathers c rises h reached bytes m e =
      let found = entries_gathered c rises h reached e.part e.has.tail e.has.items in (
        found.0,
        record {
          part = e.part;
          has = record {
            head = e.has.head;
            tail = e.has.tail;
            whole = e.has.whole;
            count = e.has.count;
            items = found.1;
          };
          is = e.is;
        },
      )

  -- ---- a hashed map

  abbrev pub map_layer : Layer A (List (K × B))
  map_layer = record {
    codec = λ f. map_codec o k (p.codec f);
    All = entries_all;
    means = λ m es. table_means (table_of k.canonical.means (p.means m) es);
    deep = each_deep entry_layer;
    weaker = (list_layer entry_layer).weaker;
    less = (list_layer entry_layer).less;
    means_is = λ f es. ap (λ ps. table_means (last_values ps)) (entries_mean f es);
    means_same = λ m n es e. ap (λ ps. table_means (last_values ps)) (entries_same m n es e);
    written_same = entries_written;
    legal_same = table_legal;
    rises = map_rises;
    gathers = map_gathers;
    reads = p.reads;
    is_read = λ r f e. both_are_read read (p.is_read r f e);
  }

  -- ---- a map that holds its entries in order

  module _ (C : K → K → Ordering) where
    abbrev pub ordered_means : (A → Meaning) → List (K × B) → Meaning
    ordered_means m es = ordered_map_means C k.canonical.means (p.means m) es

    -- what entries of these meanings come to, where they were found to stand in order, or not
    abbrev found_means : Bool → List (Meaning × Meaning) → Meaning
    found_means sorted ps = cond sorted (table_means (last_values ps)) (unordered (map paired ps))

    pub ordered_legal : (f h : Codec A) (m : A → Meaning) (es : List (K × B))
        → entries_all (λ y. f.encoding.legal (m y) → h.encoding.legal (m y)) es
        → LegalMap k.encoding.legal (p.codec f).encoding.legal (ordered_means m es)
        → LegalMap k.encoding.legal (p.codec h).encoding.legal (ordered_means m es)
    ordered_legal f h m es w =
        let pairs = map (entry_means m) es in
        let Old = LegalMap k.encoding.legal (p.codec f).encoding.legal in
        let New = LegalMap k.encoding.legal (p.codec h).encoding.legal in
        elim (is_sorted C es) as (λ b. Old (found_means b pairs) → New (found_means b pairs)) [
          | true ↦ table_legal f h m es w
          | false ↦ λ s. no_list_is_unordered _ (map paired pairs) (sym s.is)
        ]

    abbrev pub ordered_map_layer : Layer A (List (K × B))
    ordered_map_layer = record {
      codec = λ f. ordered_map_codec o C k (p.codec f);
      All = entries_all;
      means = ordered_means;
      deep = each_deep entry_layer;
      weaker = (list_layer entry_layer).weaker;
      less = (list_layer entry_layer).less;
      means_is = λ f es. ap (found_means (is_sorted C es)) (entries_mean f es);
      means_same = λ m n es e. ap (found_means (is_sorted C es)) (entries_same m n es e);
      written_same = entries_written;
      legal_same = ordered_legal;
      rises = map_rises;
      gathers = map_gathers;
      reads = p.reads;
      is_read = λ r f e. both_are_read read (p.is_read r f e);
    }
