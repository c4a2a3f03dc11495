-- What is proved of Sets.
use Rattle.std.specs.Prelude.{◌≡◌, ◌<◌, ◌^◌, Bool, true, false, cond, ◌||◌, refl, List, [], ◌∷◌}
use Rattle.std.specs.Prelude.{length, Option, Some, None, map}
use Rattle.std.specs.List.{AllByRecursion, IsDistinct, list_any}
use Rattle.std.specs.Map.{lookup, keys_of}
use Rattle.std.specs.Set.{KeepsOthers}
use Rattle.std.specs.FinMap as table
use Rattle.std.proofs.Common.{ap, sym, ◌∙◌, subst}
use Rattle.std.proofs.lemmas.List.{length-map}
use Rattle.std.specs.declared.cmp.Ordering.{Ordering}
use Rattle.nano_meaning.specs.Meaning.{Meaning, EqAgrees, pair_map, usize_bound, AllOfList}
use Rattle.nano_meaning.specs.Meaning.{BothOfPair}
use Rattle.nano_meaning.proofs.MeaningLaws.{listed_injective, image_of}
use Rattle.nano_meaning.proofs.TablesLaws.{all_of_table_of, all_of_table_weaker, table_of-insert}
use Rattle.nano_meaning.specs.Sets.{marked, MeaningSet, item_set, set_means, AllOfSet, LegalSet}
use Rattle.nano_meaning.specs.Sets.{ascending_items}
use Rattle.nano_meaning.specs.Tables.{last_values, IsOrderOf, ascending}
use Rattle.nano_meaning.proofs.AscendingLaws.{ascending_same, all-ascending, table_of-ascending}

same_marked : {K : Type 0} (es fs : List (K × Unit {0})) → keys_of es ≡ keys_of fs → es ≡ fs
same_marked [] [] e = refl
same_marked [] (y ∷ ys) e = absurd (cc)
same_marked (x ∷ xs) [] e = absurd (cc)
same_marked (x ∷ xs) (y ∷ ys) e =
    let head : x.0 ≡ y.0 = cc in
    let tail : keys_of xs ≡ keys_of ys = cc in
    λ i. (head i, tt) ∷ same_marked xs ys tail i

pub set_means-injective : (s t : MeaningSet) → set_means s ≡ set_means t → s ≡ t
set_means-injective s t e =
    table.same_entries_map s t (same_marked (table.entries s) (table.entries t)
    (listed_injective _ _ e))

pub keys_of-marked : {K : Type 0} (ks : List K) → keys_of (marked ks) ≡ ks
keys_of-marked [] = refl
keys_of-marked (k ∷ ks) = ap (λ l. k ∷ l) (keys_of-marked ks)

abbrev punctuator : Bool → Option (Unit {0})
punctuator b = cond b (Some tt) None

pub lookup-marked : {K : Type 0} (p : K → Bool) (ks : List K)
    → lookup p (marked ks) ≡ punctuator (list_any p ks)
lookup-marked p [] = refl
lookup-marked p (k ∷ ks) =
    elim (p k) as (λ b. cond b (Some tt) (lookup p (marked ks)) ≡ punctuator (b || list_any p ks))
    [ true ↦ refl | false ↦ lookup-marked p ks ]

pub distinct-marked : {K : Type 0} (E : K → K → Bool) (ks : List K) → IsDistinct E ks
    → IsDistinct E (keys_of (marked ks))
distinct-marked E ks = subst (IsDistinct E) (sym (keys_of-marked ks))

-- a set's `insert` is the table's
pub item_set-insert : {K : Type 0} (f : K → Meaning) (E : K → K → Bool) → EqAgrees E f
    → (old new : List K) (k : K) → IsDistinct E old → IsDistinct E new → list_any (E k) new ≡ true
    → KeepsOthers E (E k) old new → item_set f new ≡ table.insert (item_set f old) (f k) tt
unfolding KeepsOthers Rattle.std.specs.Map.KeepsOthers
item_set-insert f E exact old new k was is at others =
    table_of-insert f (λ u. u) E exact (marked old) (marked new) k tt (distinct-marked E old was)
    (distinct-marked E new is) (lookup-marked (E k) new ∙ ap punctuator at)
    (λ other key apart. lookup-marked other new
    ∙ (ap punctuator (others other key apart) ∙ sym (lookup-marked other old)))

pub all-marked : {K : Type 0} (P : K → Type 0) (ks : List K) → AllByRecursion P ks
    → AllByRecursion (λ e. P e.0 × Unit {0}) (marked ks)
all-marked P [] h = tt
all-marked P (k ∷ ks) h = ((h.0, tt), all-marked P ks h.1)

-- a set of legal items is legal
pub set_is_legal : {K : Type 0} (f : K → Meaning) (P : Meaning → Type 0) (ks : List K)
    → length ks < 2 ^ 63 → AllByRecursion (λ k. P (f k)) ks → LegalSet P (set_means (item_set f ks))
set_is_legal f P ks few all =
    image_of set_means (AllOfSet P) (item_set f ks) (all_of_table_of P (λ _. Unit {0}) f (λ u. u)
    (marked ks) (subst (λ n. n < 2 ^ 63) (sym (length-map ks (λ k. (k, tt)))) few)
    (all-marked (λ k. P (f k)) ks all))

pub set_weaker : (P Q : Meaning → Type 0) → ((m : Meaning) → P m → Q m) → (m : Meaning)
    → LegalSet P m → LegalSet Q m
set_weaker P Q weaker m h =
    record {
      part = h.part;
      has =
          all_of_table_weaker P Q (λ _. Unit {0}) (λ _. Unit {0}) weaker (λ x u. u) h.part h.has;
      is =
          h.is;
    }

-- ==== the items of a set

keys_mapped : {K X : Type 0} (f : K → X) (es : List (K × Unit {0}))
    → map f (keys_of es) ≡ map (λ e. f e.0) es
keys_mapped f [] = refl
keys_mapped f (e ∷ es) = ap (λ l. f e.0 ∷ l) (keys_mapped f es)

keys_marked : {K : Type 0} (f : K → Meaning) (es : List (K × Unit {0}))
    → marked (map f (keys_of es)) ≡ map (pair_map f (λ u. u)) es
keys_marked f [] = refl
keys_marked f (e ∷ es) = ap (λ l. (f e.0, tt) ∷ l) (keys_marked f es)

all_keys : {K : Type 0} (f : K → Meaning) (P : Meaning → Type 0) (es : List (K × Unit {0}))
    → AllByRecursion (BothOfPair P (λ _. Unit {0})) (map (pair_map f (λ u. u)) es)
    → AllByRecursion P (map f (keys_of es))
all_keys f P [] h = tt
all_keys f P (e ∷ es) h = (h.0.0, all_keys f P es h.1)

module _ {K : Type 0} (R : K → K → Ordering) (f : K → Meaning) (order : IsOrderOf f R) where
  -- sets that mean the same have items in order that give the same
  pub same_items : {Y : Type 0} (W : K → Y) → ((x y : K) → f x ≡ f y → W x ≡ W y) → (xs ys : List K)
      → item_set f xs ≡ item_set f ys → map W (ascending_items R xs) ≡ map W (ascending_items R ys)
  same_items W same xs ys e =
      let entries =
      ascending_same R f order (λ u. u) (λ x. W x.0) (λ x y k l. same x.0 y.0 k) (marked xs)
      (marked ys) e in
      keys_mapped W (ascending R (marked xs))
      ∙ (entries ∙ sym (keys_mapped W (ascending R (marked ys))))

  -- the items in order make the same set
  pub item_set-ascending : (ks : List K) → last_values (marked (map f (ascending_items R ks))) ≡
      item_set f ks
  item_set-ascending ks = ap last_values (keys_marked f (ascending R (marked ks)))
      ∙ table_of-ascending R f order (λ u. u) (marked ks)

  -- what holds of all of a set holds of its items in order
  pub all_items : (P : Meaning → Type 0) (ks : List K) → AllOfSet P (item_set f ks)
      → AllOfList P (map f (ascending_items R ks))
  all_items P ks h =
      let entries = ascending R (marked ks) in
      let all = all-ascending R f order (λ u. u) P (λ _. Unit {0}) (marked ks) h in
      let same_count = length-map (keys_of entries) f ∙ length-map entries (λ e. e.0) in
      record {
        count = subst (λ n. n < usize_bound) (length-map entries (pair_map f (λ u. u))
            ∙ sym same_count) all.count;
        items = all_keys f P entries all.items;
      }
