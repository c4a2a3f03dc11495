-- What is proved of LastValues.
use Rattle.std.specs.Prelude.{◌≡◌, ◌≢◌, ◌⊎◌, ◌↔◌, Bool, true, false, cond, refl, List, [], ◌∷◌}
use Rattle.std.specs.Prelude.{◌++◌, Option, Some, None}
use Rattle.std.specs.declared.cmp.Ordering.{Ordering}
use Rattle.std.specs.Ordering.{eq_by_cmp}
use Rattle.std.specs.Cmp.{IsTotalOrder}
use Rattle.std.specs.List.{AllByRecursion, IsDistinct}
use Rattle.std.specs.FinMap as table
use Rattle.std.specs.Map.{keys_of}
use Rattle.std.proofs.Common.{sym, ◌∙◌, subst, ap, inl, inr, map}
use Rattle.std.proofs.lemmas.List.Sorted.{Contains-permutation, IsPermutation-sym}
use Rattle.std.proofs.lemmas.List.Sorted.{IsPermutation-trans}
use Rattle.std.proofs.lemmas.List.{map-append}
use Rattle.nano_meaning.specs.Meaning.{Meaning}
use Rattle.nano_meaning.proofs.OrderLaws.{meaning_cmp-total, meaning_cmp-antisymmetric}
use Rattle.nano_meaning.proofs.OrderLaws.{same_meaning, same_meaning-decides}
use Rattle.nano_meaning.specs.Tables.{Table, last_values, ascending, IsLastValue, HoldsLastValues}
use Rattle.nano_meaning.specs.Tables.{IsInOrder, table_of, table_means, map_means}
use Rattle.nano_meaning.proofs.TablesLaws.{last, get-last_values, insert_all-push}
use Rattle.nano_meaning.proofs.SortedEntriesLaws.{strictly_sorted}
use Rattle.nano_meaning.proofs.InOrderLaws.{same_rising, IsPermutation-ascending}
use Rattle.nano_meaning.specs.Collected.{HoldsSet, HoldsOrderedSet, HoldsTable, HoldsOrderedTable}
use Rattle.nano_meaning.specs.Ordered.{ordered_map_means, ordered_means}
use Rattle.nano_meaning.proofs.OrderedMapsLaws.{ordered_map_means-sorted}
use Rattle.nano_meaning.proofs.OrderedSetsLaws.{ordered_means-sorted}
use Rattle.nano_meaning.specs.Sets.{MeaningSet, item_set, set_means, marked, items_mean}

apart : (key other : Meaning) → (other ≡ key → ⊥) → same_meaning key other ≡ false
apart key other h = elim (same_meaning key other) as (λ b. same_meaning key other ≡ b → b ≡ false) [
  | true ↦ λ e. absurd (h (sym ((same_meaning-decides key other).0 e)))
  | false ↦ λ e. refl
] refl

module _ {X : Type 0} (key : Meaning) where
  -- what is found at a key is its last value, or there is none and it is what was there before
  last_or_none :
      (pairs : List (Meaning × X)) (o : Option X) (value : X) → last key pairs o ≡ Some value
      → IsLastValue pairs key value ⊎ (AllByRecursion (λ e. e.0 ≢ key) pairs × (o ≡ Some value))
  last_or_none [] o value h = inr (tt, h)
  last_or_none (e ∷ pairs) o value h = at_head (last_or_none pairs _ value h)
    where
      here : (b : Bool) → same_meaning key e.0 ≡ b → AllByRecursion (λ e. e.0 ≢ key) pairs
          → cond b (Some e.1) o ≡ Some value → IsLastValue (e ∷ pairs) key value
          ⊎ (AllByRecursion (λ e. e.0 ≢ key) (e ∷ pairs) × (o ≡ Some value))
      here true same none is =
          let at : key ≡ e.0 = (same_meaning-decides key e.0).0 same in
          let value_is : e.1 ≡ value = cc in
          inl (record {
            before = [];
            following = pairs;
            whole =
                λ i. (sym at i, value_is i) ∷ pairs;
            none_after = none;
          })
      here false other none is =
          let not : (e.0 ≡ key) → ⊥ = λ at. let same =
          (same_meaning-decides key e.0).1 (sym at) in absurd (cc) in
          inr ((not, none), is)

      at_head : IsLastValue pairs key value
          ⊎ (AllByRecursion (λ e. e.0 ≢ key) pairs
          × (cond (same_meaning key e.0) (Some e.1) o ≡ Some value))
          → IsLastValue (e ∷ pairs) key value
          ⊎ (AllByRecursion (λ e. e.0 ≢ key) (e ∷ pairs) × (o ≡ Some value))
      at_head (inl h) =
          inl (record {
            before = e ∷ h.before;
            following = h.following;
            whole =
                ap (λ l. e ∷ l) h.whole;
            none_after = h.none_after;
          })
      at_head (inr h) = here (same_meaning key e.0) refl h.0 h.1

  -- where no pair has the key, what was there is unchanged
  none_has : (pairs : List (Meaning × X)) (o : Option X) → AllByRecursion (λ e. e.0 ≢ key) pairs
      → last key pairs o ≡ o
  none_has [] o h = refl
  none_has (e ∷ pairs) o h = ap (λ b. last key pairs (cond b (Some e.1) o)) (apart key e.0 h.0)
      ∙ none_has pairs o h.1

  last-append : (before following : List (Meaning × X)) (o : Option X)
      → last key (before ++ following) o ≡ last key following (last key before o)
  last-append [] following o = refl
  last-append (e ∷ before) following o = last-append before following _

  last_is : (pairs : List (Meaning × X)) (o : Option X) (value : X) → IsLastValue pairs key value
      → last key pairs o ≡ Some value
  last_is pairs o value h =
      let found : same_meaning key key ≡ true = (same_meaning-decides key key).1 refl in
      let so_far = last key h.before o in
      ap (λ l. last key l o) h.whole
      ∙ (last-append h.before ((key, value) ∷ h.following) o
      ∙ (ap (λ b. last key h.following (cond b (Some value) so_far)) found
      ∙ none_has h.following (Some value) h.none_after))

no_before : {X P : Type 0} (value : X) → None ≡ Some value → P
no_before value e = absurd (cc)

module _ {X : Type 0} (pairs : List (Meaning × X)) where
  pub last_values_hold : HoldsLastValues pairs (last_values pairs)
  last_values_hold = record {
    has = λ key value h. get-last_values pairs key ∙ last_is key pairs None value h;
    only = λ key value h. only key value (last_or_none key pairs None value
        (sym (get-last_values pairs key) ∙ h));
  }
    where
      only : (key : Meaning) (value : X) → IsLastValue pairs key value
          ⊎ (AllByRecursion (λ e. e.0 ≢ key) pairs × (None ≡ Some value))
          → IsLastValue pairs key value
      only key value (inl h) = h
      only key value (inr h) = no_before value h.1

  one_value : (t u : Table X) → HoldsLastValues pairs t → HoldsLastValues pairs u → (key : Meaning)
      → table.get t key ≡ table.get u key
  one_value t u h j key =
      elim (table.get t key) as (λ o. table.get t key ≡ o → o ≡ table.get u key) [
        | None ↦ λ none. elim (table.get u key) as (λ o. table.get u key ≡ o → None ≡ o) [
          | None ↦ λ e. refl
          | Some value ↦ λ e. let found = h.has key value (j.only key value e) in absurd (cc)
        ] refl
        | Some value ↦ λ e. sym (j.has key value (h.only key value e))
      ] refl

  -- the table of the insertions is the one that holds the last values
  pub holds_last_values : (t : Table X) → (t ≡ last_values pairs) ↔ HoldsLastValues pairs t
  holds_last_values t = (
    λ e. subst (HoldsLastValues pairs) (sym e) last_values_hold,
    λ h. table.same_map meaning_cmp-total meaning_cmp-antisymmetric t (last_values pairs)
        (one_value t (last_values pairs) h last_values_hold),
  )

-- of pairs of which no two keys are equal, the ascending list is the one that strictly ascends
-- and has them
pub in_order :
    {K X : Type 0} {R : K → K → Ordering} → IsTotalOrder R → (pairs sorted : List (K × X))
    → IsDistinct (eq_by_cmp R) (keys_of pairs)
    → (sorted ≡ ascending R pairs) ↔ IsInOrder R pairs sorted
in_order {K} {X} {R} o pairs sorted apart =
    let rises =
    strictly_sorted R (ascending R pairs) (table.entries_sorted (last_values {R = R} pairs)) in
    let same = IsPermutation-ascending o pairs apart in
    let it : IsInOrder R pairs (ascending R pairs) = record { ascends = rises; same = same } in (
      λ e. subst (IsInOrder R pairs) (sym e) it,
      λ h.
          let to = IsPermutation-trans _ _ _ h.same (IsPermutation-sym _ _ same) in
          same_rising o sorted (ascending R pairs) h.ascends rises
          (λ z at. Contains-permutation _ _ z to at) (λ z at. Contains-permutation _ _ z
          (IsPermutation-sym _ _ to) at),
    )

-- ==== what is collected

-- one more item of a list
pub one_more_listed : {V : Type 0} (f : V → Meaning) (old new : List V) (items : List Meaning)
    (v : V) → map f old ≡ items → new ≡ old ++ v ∷ [] → map f new ≡ items ++ f v ∷ []
one_more_listed f old new items v is put =
    ap (map f) put
    ∙ (map-append f old (v ∷ []) ∙ ap (λ (ms : List Meaning). ms ++ f v ∷ []) is)

-- one more item of a set
pub one_more_item : (s t : MeaningSet) (items : List Meaning) (m : Meaning)
    → s ≡ last_values (marked items) → t ≡ table.insert s m tt
    → t ≡ last_values (marked (items ++ m ∷ []))
one_more_item s t items m is put =
    let next = map-append (λ (k : Meaning). (k, tt)) items (m ∷ []) in
    let push = insert_all-push table.empty (marked items) m tt in
    put ∙ (ap (λ (x : MeaningSet). table.insert x m tt) is ∙ sym (ap last_values next ∙ push))

module _ {K : Type 0} {f : K → Meaning} {keys : List K} {items : List Meaning} where
  pub set_is_whole : {E : K → K → Bool} → HoldsSet E f keys items
      → set_means (item_set f keys) ≡ items_mean items
  set_is_whole h = ap set_means h.same

  pub ordered_set_is_whole : {R : K → K → Ordering} → HoldsOrderedSet R f keys items
      → ordered_means R f keys ≡ items_mean items
  ordered_set_is_whole {R} h = ordered_means-sorted R f keys h.ordered ∙ ap set_means h.same

-- one more entry of a map
pub one_more_entry : (s t : Table Meaning) (pairs : List (Meaning × Meaning)) (x y : Meaning)
    → s ≡ last_values pairs → t ≡ table.insert s x y → t ≡ last_values (pairs ++ (x, y) ∷ [])
one_more_entry s t pairs x y is put =
    put ∙ (ap (λ (z : Table Meaning). table.insert z x y) is
    ∙ sym (insert_all-push table.empty pairs x y))

module _ {K V : Type 0} {f : K → Meaning} {h : V → Meaning} {entries : List (K × V)}
    {pairs : List (Meaning × Meaning)} where
  pub table_is_whole : {E : K → K → Bool} → HoldsTable E f h entries pairs
      → table_means (table_of f h entries) ≡ map_means pairs
  table_is_whole k = ap table_means k.same

  pub ordered_table_is_whole : {R : K → K → Ordering} → HoldsOrderedTable R f h entries pairs
      → ordered_map_means R f h entries ≡ map_means pairs
  ordered_table_is_whole {R} k =
      ordered_map_means-sorted R f h entries k.ordered ∙ ap table_means k.same
