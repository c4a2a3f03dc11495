-- What is proved of OrderedSets.
use Rattle.std.specs.Prelude.{◌≡◌, ◌<◌, ◌^◌, Bool, true, false, cond, ◌&&◌, T, refl, List, [], ◌∷◌}
use Rattle.std.specs.Prelude.{map, length}
use Rattle.std.specs.declared.cmp.Ordering.{Ordering}
use Rattle.std.specs.declared.cmp.Ordering.TheVariants.{Less, Equal}
use Rattle.std.specs.List.{AllByRecursion}
use Rattle.std.specs.List.Sorted.{IsStrictlySortedBy}
use Rattle.std.specs.Ordering.{is_lt, is_eq}
use Rattle.std.specs.Cmp.{IsTotalOrder, Equal-is, alike_right}
use Rattle.std.specs.Cmp.Lexicographic.{pointwise, slice_cmp, lists_total}
use Rattle.std.specs.FinMap.Entries.{below_all, is_sorted}
use Rattle.std.proofs.Common.{ap, sym, ◌∙◌, subst}
use Rattle.std.specs.Map.{keys_of}
use Rattle.std.specs.FinMap as table
use Rattle.std.specs.FinMap.{slice_cmp-IsAntisymmetric}
use Rattle.nano_meaning.specs.Meaning.{Meaning, listed, pair_map, EqAgrees}
use Rattle.nano_meaning.proofs.MeaningLaws.{listed_injective, both_injective}
use Rattle.nano_meaning.proofs.ExactLaws.{lists_tell}
use Rattle.nano_meaning.specs.Tables.{last_values, IsOrderOf}
use Rattle.nano_meaning.specs.Sets.{marked, item_set, set_means, LegalSet, ascending_items}
use Rattle.nano_meaning.proofs.SetsLaws.{set_means-injective, set_is_legal, keys_of-marked}
use Rattle.nano_meaning.proofs.SetsLaws.{same_items, item_set-ascending}
use Rattle.nano_meaning.proofs.AscendingLaws.{key_order, ascending_same, ascending-sorted}
use Rattle.nano_meaning.specs.Ordered.{unordered, ordered_means, is_list, seen_set}
use Rattle.nano_meaning.specs.Order.{meaning_cmp, MeaningOrder, Follows, items_of}
use Rattle.nano_meaning.proofs.OrderLaws.{meanings, by_meaning-orders, order_by, order_by-is}
use Rattle.nano_meaning.proofs.OrderLaws.{seen_items, lists_map, followed}

pub no_list_is_unordered : {P : Type 0} (ms ns : List Meaning) → listed ms ≡ unordered ns → P
no_list_is_unordered [] [] e = absurd (cc)
no_list_is_unordered [] (n ∷ ns) e = absurd (cc)
no_list_is_unordered (m ∷ ms) [] e = absurd (cc)
no_list_is_unordered (m ∷ ms) (n ∷ ns) e =
    no_list_is_unordered ms ns (both_injective m (listed ms) n (unordered ns) e).1

pub unordered_injective : (ms ns : List Meaning) → unordered ms ≡ unordered ns → ms ≡ ns
unordered_injective [] [] e = refl
unordered_injective [] (n ∷ ns) e = absurd (cc)
unordered_injective (m ∷ ms) [] e = absurd (cc)
unordered_injective (m ∷ ms) (n ∷ ns) e =
    let parts = both_injective m (unordered ms) n (unordered ns) e in
    λ i. parts.0 i ∷ unordered_injective ms ns parts.1 i

pub marked_meanings : {K : Type 0} (f : K → Meaning) (ks : List K)
    → map (pair_map f (λ u. u)) (marked ks) ≡ marked (map f ks)
marked_meanings f [] = refl
marked_meanings f (k ∷ ks) = ap (λ l. (f k, tt) ∷ l) (marked_meanings f ks)

-- items that mean the same make the same set
pub same_item_set : {K : Type 0} (f : K → Meaning) (xs ys : List K) → map f xs ≡ map f ys
    → item_set f xs ≡ item_set f ys
same_item_set f xs ys e =
    ap last_values (marked_meanings f xs ∙ (ap marked e ∙ sym (marked_meanings f ys)))

-- what items mean that were found to stand in order, or not
abbrev found_means : {K : Type 0} → (K → Meaning) → List K → Bool → Meaning
found_means f ks b = cond b (set_means (item_set f ks)) (unordered (map f ks))

-- sets that mean the same have the same items
pub ordered_means-sets :
    {K : Type 0} (R : K → K → Ordering) (f : K → Meaning) (xs ys : List K)
    → ordered_means R f xs ≡ ordered_means R f ys
    → item_set f xs ≡ item_set f ys
ordered_means-sets R f xs ys =
    elim (is_sorted R (marked xs)) as (λ a. found_means f xs a ≡ ordered_means R f ys
    → item_set f xs ≡ item_set f ys) [
      | true ↦ elim (is_sorted R (marked ys)) as (λ b. set_means (item_set f xs) ≡ found_means f ys
          b → item_set f xs ≡ item_set f ys) [
            | true ↦ λ e. set_means-injective (item_set f xs) (item_set f ys) e
            | false ↦ λ e. no_list_is_unordered _ (map f ys) e
          ]
      | false ↦ elim (is_sorted R (marked ys)) as (λ b. unordered (map f xs) ≡ found_means f ys b
          → item_set f xs ≡ item_set f ys) [
            | true ↦ λ e. no_list_is_unordered _ (map f xs) (sym e)
            | false ↦ λ e. same_item_set f xs ys (unordered_injective (map f xs) (map f ys) e)
          ]
    ]

meanings_marked : {K : Type 0} (f : K → Meaning) (ks : List K)
    → map (λ e. f e.0) (marked ks) ≡ map f ks
meanings_marked f [] = refl
meanings_marked f (k ∷ ks) = ap (λ l. f k ∷ l) (meanings_marked f ks)

both_true : (a b : Bool) → T a → T b → T (a && b)
both_true true b p q = q
both_true false b p q = absurd p

module _ {K : Type 0} (R : K → K → Ordering) where
  below_marked : (x : K) (ks : List K) → AllByRecursion (λ y. R x y ≡ Less) ks
      → T (below_all R x (marked ks))
  below_marked x [] h = tt
  below_marked x (k ∷ ks) h =
      both_true _ _ (subst (λ r. T (is_lt r)) (sym h.0) tt) (below_marked x ks h.1)

  -- the keys of a set of a program stand in order
  pub sorted_marked : (ks : List K) → IsStrictlySortedBy R ks → T (is_sorted R (marked ks))
  unfolding IsStrictlySortedBy
  sorted_marked [] h = tt
  sorted_marked (k ∷ ks) h = both_true _ _ (below_marked k ks h.0) (sorted_marked ks h.1)

  pub is_true : (b : Bool) → T b → b ≡ true
  is_true true h = refl
  is_true false h = absurd h

  pub ordered_means-sorted : (f : K → Meaning) (ks : List K) → IsStrictlySortedBy R ks
      → ordered_means R f ks ≡ set_means (item_set f ks)
  ordered_means-sorted f ks h =
      ap (λ b. cond b (set_means (item_set f ks)) (unordered (map f ks)))
      (is_true _ (sorted_marked ks h))

  -- a set of legal items is legal
  pub ordered_is_legal : (f : K → Meaning) (P : Meaning → Type 0) (ks : List K)
      → IsStrictlySortedBy R ks → length ks < 2 ^ 63 → AllByRecursion (λ k. P (f k)) ks
      → LegalSet P (ordered_means R f ks)
  ordered_is_legal f P ks h few all =
      subst (LegalSet P) (sym (ordered_means-sorted f ks h)) (set_is_legal f P ks few all)

  module _ (f : K → Meaning) (order : IsOrderOf f R) where
    same_answer : (x y z w : K) → f x ≡ f z → f y ≡ f w → R x y ≡ R z w
    same_answer x y z w e h =
        let same_rank : R x z ≡ Equal = (Equal-is (R x z)).0 ((order.decides x z).1 e) in
        let other : R y w ≡ Equal = (Equal-is (R y w)).0 ((order.decides y w).1 h) in
        order.total.congr x z y same_rank ∙ alike_right order.total y w z other

    same_below : (x y : K) (xs ys : List K) → f x ≡ f y → map f xs ≡ map f ys
        → below_all R x (marked xs) ≡ below_all R y (marked ys)
    same_below x y [] [] e h = refl
    same_below x y [] (w ∷ ys) e h = absurd (cc)
    same_below x y (z ∷ xs) [] e h = absurd (cc)
    same_below x y (z ∷ xs) (w ∷ ys) e h =
        let head : f z ≡ f w = cc in
        let tail : map f xs ≡ map f ys = cc in
        λ i. is_lt (same_answer x z y w e head i) && same_below x y xs ys e tail i

    pub same_sorted : (xs ys : List K) → map f xs ≡ map f ys
        → is_sorted R (marked xs) ≡ is_sorted R (marked ys)
    same_sorted [] [] h = refl
    same_sorted [] (y ∷ ys) h = absurd (cc)
    same_sorted (x ∷ xs) [] h = absurd (cc)
    same_sorted (x ∷ xs) (y ∷ ys) h =
        let head : f x ≡ f y = cc in
        let tail : map f xs ≡ map f ys = cc in
        λ i. same_below x y xs ys head tail i && same_sorted xs ys tail i

    pub from_meanings : (xs ys : List K) → map f xs ≡ map f ys
        → ordered_means R f xs ≡ ordered_means R f ys
    from_meanings xs ys h i =
        cond (same_sorted xs ys h i) (set_means (same_item_set f xs ys h i)) (unordered (h i))

    in_order : (xs ys : List K) → T (is_sorted R (marked xs)) → T (is_sorted R (marked ys))
        → item_set f xs ≡ item_set f ys → map f xs ≡ map f ys
    in_order xs ys p q e =
        let entries =
        ascending_same R f order (λ u. u) (λ x. f x.0) (λ x y same _. same) (marked xs)
        (marked ys) e in
        let left = ap (map (λ x. f x.0)) (ascending-sorted order.total (marked xs) p)
        ∙ meanings_marked f xs in
        let right = ap (map (λ x. f x.0)) (ascending-sorted order.total (marked ys) q)
        ∙ meanings_marked f ys in
        sym left ∙ (entries ∙ right)

    -- sets that mean the same have items that mean the same, one by one
    pub ordered_means-meanings : (xs ys : List K) → ordered_means R f xs ≡ ordered_means R f ys
        → map f xs ≡ map f ys
    ordered_means-meanings xs ys =
        elim (is_sorted R (marked xs)) as (λ a. is_sorted R (marked xs) ≡ a
        → cond a (set_means (item_set f xs)) (unordered (map f xs)) ≡ ordered_means R f ys
        → map f xs ≡ map f ys) [
          | true ↦ λ p. elim (is_sorted R (marked ys)) as (λ b. is_sorted R (marked ys) ≡ b
              → set_means (item_set f xs) ≡ cond b (set_means (item_set f ys))
              (unordered (map f ys)) → map f xs ≡ map f ys) [
                | true ↦ λ q e. in_order xs ys (subst T (sym p) tt) (subst T (sym q) tt)
                    (set_means-injective (item_set f xs) (item_set f ys) e)
                | false ↦ λ q e. no_list_is_unordered _ (map f ys) e
              ] refl
          | false ↦ λ p. elim (is_sorted R (marked ys)) as (λ b. is_sorted R (marked ys) ≡ b
              → unordered (map f xs) ≡ cond b (set_means (item_set f ys)) (unordered (map f ys))
              → map f xs ≡ map f ys) [
                | true ↦ λ q e. no_list_is_unordered _ (map f xs) (sym e)
                | false ↦ λ q e. unordered_injective (map f xs) (map f ys) e
              ] refl
        ] refl

-- `==` of the items, one by one, agrees with what the sets mean
pub ordered_tell : {K : Type 0} (R : K → K → Ordering) (E : K → K → Bool) (f : K → Meaning)
    → IsTotalOrder R → ((x y : K) → E x y ≡ is_eq (R x y)) → EqAgrees E f
    → EqAgrees (pointwise E) (ordered_means R f)
ordered_tell R E f total matches exact xs ys =
    let order = key_order R E f f total matches exact refl in
    let lists = lists_tell f E exact xs ys in (
      λ e. from_meanings R f order xs ys (listed_injective _ _ (lists.0 e)),
      λ e. lists.1 (ap listed (ordered_means-meanings R f order xs ys e)),
    )

-- ==== the order of ordered sets

pub listed_is_list : (ms : List Meaning) → is_list (listed ms) ≡ true
unfolding is_list
listed_is_list [] = refl
listed_is_list (m ∷ ms) = listed_is_list ms

pub unordered_is_none : (ms : List Meaning) → is_list (unordered ms) ≡ false
unfolding is_list
unordered_is_none [] = refl
unordered_is_none (m ∷ ms) = unordered_is_none ms

pub seen_unordered : (ms : List Meaning) → items_of (unordered ms) ≡ ms
seen_unordered [] = refl
seen_unordered (m ∷ ms) = ap (λ l. m ∷ l) (seen_unordered ms)

pub map_itself : {A : Type 0} (xs : List A) → map (λ x. x) xs ≡ xs
map_itself [] = refl
map_itself (x ∷ xs) = ap (λ l. x ∷ l) (map_itself xs)

abbrev pub sets : MeaningOrder → MeaningOrder
sets o = order_by (seen_set o) (slice_cmp o.cmp) (lists_total o.total)

module _ {K : Type 0} (R : K → K → Ordering) (f : K → Meaning) (o : MeaningOrder)
    (h : Follows R f o) where
  below_map : (x : K) (ks : List K) → below_all R x (marked ks) ≡ below_all o.cmp (f x)
      (marked (map f ks))
  below_map x [] = refl
  below_map x (k ∷ ks) = λ i. is_lt (h x k i) && below_map x ks i

  sorted_map : (ks : List K) → is_sorted R (marked ks) ≡ is_sorted o.cmp (marked (map f ks))
  sorted_map [] = refl
  sorted_map (k ∷ ks) = λ i. below_map k ks i && sorted_map ks i

  same_set : (ks : List K) → item_set (λ m. m) (keys_of (table.entries (item_set f ks))) ≡ item_set
      (λ m. m) (map f ks)
  same_set ks =
      let whole : item_set f ks ≡ last_values (marked (map f ks)) =
      ap last_values (marked_meanings f ks) in
      ap last_values (marked_meanings (λ (m : Meaning). m) (keys_of
      (table.entries (item_set f ks))))
      ∙ (ap (λ t. last_values (marked (map (λ (m : Meaning). m) (keys_of (table.entries t))))) whole
      ∙ item_set-ascending meaning_cmp (λ m. m) (by_meaning-orders (λ m. m) meanings) (map f ks))

  ordered_again : (ks : List K) → T (is_sorted R (marked ks))
      → ascending_items o.cmp (keys_of (table.entries (item_set f ks))) ≡ map f ks
  ordered_again ks sorted =
      let Z = keys_of (table.entries (item_set f ks)) in
      let same =
      same_items o.cmp (λ m. m) (by_meaning-orders (λ m. m) o) (λ m. m) (λ x y e. e) Z
      (map f ks) (same_set ks) in
      let unchanged : ascending_items o.cmp (map f ks) ≡ map f ks =
      ap keys_of (ascending-sorted o.total (marked (map f ks)) (subst T (sorted_map ks) sorted))
      ∙ keys_of-marked (map f ks) in
      sym (map_itself (ascending_items o.cmp Z))
      ∙ (same ∙ (map_itself (ascending_items o.cmp (map f ks)) ∙ unchanged))

  seen : (ks : List K) → seen_set o (ordered_means R f ks) ≡ map f ks
  unfolding seen_set
  seen ks =
      elim (is_sorted R (marked ks)) as (λ b. is_sorted R (marked ks) ≡ b
      → seen_set o (cond b (set_means (item_set f ks)) (unordered (map f ks))) ≡ map f ks) [
        | true ↦ λ e.
            let Z = keys_of (table.entries (item_set f ks)) in
            ap (λ b. cond b (ascending_items o.cmp (items_of (listed Z))) (items_of (listed Z)))
            (listed_is_list Z) ∙ (ap (ascending_items o.cmp) (seen_items R f o h Z)
            ∙ ordered_again ks (subst T (sym e) tt))
        | false ↦ λ e. ap (λ b. cond b (ascending_items o.cmp (items_of (unordered (map f ks))))
            (items_of (unordered (map f ks)))) (unordered_is_none (map f ks))
            ∙ seen_unordered (map f ks)
      ] refl

  pub sets_follow : Follows (slice_cmp R) (ordered_means R f) (sets o)
  sets_follow xs ys =
      let shown : slice_cmp R xs ys ≡ slice_cmp o.cmp (seen_set o (ordered_means R f xs))
      (seen_set o (ordered_means R f ys)) = lists_map R f o h xs ys
      ∙ (λ i. slice_cmp o.cmp (sym (seen xs) i) (sym (seen ys) i)) in
      let order = subst (λ S. IsOrderOf f S) (followed R f f o h refl) (by_meaning-orders f o) in
      shown ∙ order_by-is (seen_set o) (slice_cmp o.cmp) (lists_total o.total)
      (ordered_means R f xs) (ordered_means R f ys) (λ e.
      from_meanings R f order xs ys (slice_cmp-IsAntisymmetric o.same (map f xs) (map f ys)
      (sym (lists_map R f o h xs ys) ∙ (shown ∙ e))))
