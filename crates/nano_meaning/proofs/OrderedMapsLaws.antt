-- What is proved of OrderedMaps.
use Rattle.std.specs.Prelude.{◌≡◌, ◌<◌, ◌^◌, Bool, true, false, cond, ◌&&◌, T, refl, List, [], ◌∷◌}
use Rattle.std.specs.Prelude.{map, length}
use Rattle.std.specs.declared.cmp.Ordering.{Ordering}
use Rattle.std.specs.List.{AllByRecursion}
use Rattle.std.specs.List.Sorted.{IsStrictlySortedBy}
use Rattle.std.specs.Ordering.{is_lt, is_eq}
use Rattle.std.specs.Cmp.{IsTotalOrder}
use Rattle.std.specs.Cmp.Lexicographic.{pointwise, slice_cmp, lists_total}
use Rattle.std.specs.FinMap.Entries.{below_all, is_sorted}
use Rattle.std.specs.Map.{keys_of}
use Rattle.std.proofs.Common.{ap, sym, ◌∙◌, subst}
use Rattle.std.specs.FinMap.{slice_cmp-IsAntisymmetric}
use Rattle.nano_meaning.specs.Meaning.{Meaning, listed, paired, pair_map, EqAgrees}
use Rattle.nano_meaning.proofs.MeaningLaws.{listed_injective}
use Rattle.nano_meaning.proofs.ExactLaws.{lists_tell, pairs_tell}
use Rattle.nano_meaning.specs.Tables.{table_of, table_means, LegalMap, last_values, IsOrderOf}
use Rattle.nano_meaning.specs.Tables.{ascending}
use Rattle.nano_meaning.proofs.TablesLaws.{map_is_legal, table_means-injective, pairs_injective}
use Rattle.nano_meaning.specs.Sets.{marked}
use Rattle.nano_meaning.specs.Ordered.{unordered, ordered_map_means, seen_map, pairs_of, entry_cmp}
use Rattle.nano_meaning.proofs.OrderedSetsLaws.{unordered_injective, no_list_is_unordered, is_true}
use Rattle.nano_meaning.proofs.OrderedSetsLaws.{same_sorted, sorted_marked, listed_is_list}
use Rattle.nano_meaning.proofs.OrderedSetsLaws.{unordered_is_none, seen_unordered, map_itself}
use Rattle.nano_meaning.proofs.AscendingLaws.{key_order, ascending_same, ascending-sorted}
use Rattle.nano_meaning.proofs.AscendingLaws.{table_of-ascending}
use Rattle.nano_meaning.specs.Order.{meaning_cmp, MeaningOrder, Follows, items_of, parts_of}
use Rattle.nano_meaning.proofs.OrderLaws.{meanings, by_meaning-orders, order_by, order_by-is}
use Rattle.nano_meaning.proofs.OrderLaws.{seen_items, lists_map, pairs, pairs_follow, followed}

module _ {K V : Type 0} (R : K → K → Ordering) where
  below_keys : (x : K) (es : List (K × V)) → below_all R x es ≡ below_all R x (marked (keys_of es))
  below_keys x [] = refl
  below_keys x (e ∷ es) = ap (λ b. is_lt (R x e.0) && b) (below_keys x es)

  -- entries stand in order where their keys do
  sorted_keys : (es : List (K × V)) → is_sorted R es ≡ is_sorted R (marked (keys_of es))
  sorted_keys [] = refl
  sorted_keys (e ∷ es) = λ i. below_keys e.0 es i && sorted_keys es i

  -- the entries of a map of a program stand in order
  pub sorted_entries : (es : List (K × V)) → IsStrictlySortedBy R (keys_of es)
      → T (is_sorted R es)
  sorted_entries es h = subst T (sym (sorted_keys es)) (sorted_marked R (keys_of es) h)

  module _ (f : K → Meaning) (g : V → Meaning) where
    -- what the entries mean, pair by pair
    abbrev meant_pairs : List (K × V) → List (Meaning × Meaning)
    meant_pairs es = map (pair_map f g) es

    pub ordered_map_means-sorted : (es : List (K × V)) → IsStrictlySortedBy R (keys_of es)
        → ordered_map_means R f g es ≡ table_means (table_of f g es)
    ordered_map_means-sorted es h =
        ap (λ b. cond b (table_means (table_of f g es)) (unordered (map paired (meant_pairs es))))
        (is_true R _ (sorted_entries es h))

    -- a map of legal entries is legal
    pub ordered_map_is_legal : (P Q : Meaning → Type 0) (es : List (K × V))
        → IsStrictlySortedBy R (keys_of es) → length es < 2 ^ 63
        → AllByRecursion (λ e. P (f e.0) × Q (g e.1)) es
        → LegalMap P Q (ordered_map_means R f g es)
    ordered_map_is_legal P Q es h few all =
        subst (LegalMap P Q) (sym (ordered_map_means-sorted es h)) (map_is_legal f P g Q es few all)

    -- what entries mean that were found to stand in order, or not
    abbrev found_means : List (K × V) → Bool → Meaning
    found_means es b = cond b (table_means (table_of f g es)) (unordered (map paired (meant_pairs es)))

    pairs_from_unordered : (es fs : List (K × V))
        → unordered (map paired (meant_pairs es)) ≡ unordered (map paired (meant_pairs fs))
        → meant_pairs es ≡ meant_pairs fs
    pairs_from_unordered es fs e =
        pairs_injective (meant_pairs es) (meant_pairs fs) (unordered_injective _ _ e)

    -- maps that mean the same have the same table
    pub ordered_map_means-tables : (es fs : List (K × V))
        → ordered_map_means R f g es ≡ ordered_map_means R f g fs
        → table_of f g es ≡ table_of f g fs
    ordered_map_means-tables es fs =
        elim (is_sorted R es) as (λ a. found_means es a ≡ ordered_map_means R f g fs
        → table_of f g es ≡ table_of f g fs) [
          | true ↦ elim (is_sorted R fs) as (λ b. table_means (table_of f g es) ≡ found_means fs b
              → table_of f g es ≡ table_of f g fs) [
                | true ↦ λ e. table_means-injective (table_of f g es) (table_of f g fs) e
                | false ↦ λ e. no_list_is_unordered _ (map paired (meant_pairs fs)) e
              ]
          | false ↦ elim (is_sorted R fs) as (λ b. unordered (map paired (meant_pairs es)) ≡
              found_means fs b → table_of f g es ≡ table_of f g fs) [
                | true ↦ λ e. no_list_is_unordered _ (map paired (meant_pairs es)) (sym e)
                | false ↦ λ e. ap last_values (pairs_from_unordered es fs e)
              ]
        ]

    module _ (order : IsOrderOf f R) where
      meanings_of_keys : (es : List (K × V)) → map f (keys_of es) ≡ keys_of (meant_pairs es)
      meanings_of_keys [] = refl
      meanings_of_keys (e ∷ es) = ap (λ l. f e.0 ∷ l) (meanings_of_keys es)

      same_order : (es fs : List (K × V)) → meant_pairs es ≡ meant_pairs fs
          → is_sorted R es ≡ is_sorted R fs
      same_order es fs h =
          let keys = meanings_of_keys es ∙ (ap keys_of h ∙ sym (meanings_of_keys fs)) in
          sorted_keys es ∙ (same_sorted R f order (keys_of es) (keys_of fs) keys
          ∙ sym (sorted_keys fs))

      -- entries that mean the same, one by one, make the same map
      pub from_pairs : (es fs : List (K × V)) → meant_pairs es ≡ meant_pairs fs
          → ordered_map_means R f g es ≡ ordered_map_means R f g fs
      from_pairs es fs h i =
          cond (same_order es fs h i) (table_means (last_values (h i)))
          (unordered (map paired (h i)))

      pairs_in_order : (es fs : List (K × V)) → T (is_sorted R es) → T (is_sorted R fs)
          → table_of f g es ≡ table_of f g fs → meant_pairs es ≡ meant_pairs fs
      pairs_in_order es fs p q e =
          let entries =
          ascending_same R f order g (pair_map f g) (λ x y k l i. (k i, l i)) es fs e in
          let left = ap meant_pairs (ascending-sorted order.total es p) in
          let right = ap meant_pairs (ascending-sorted order.total fs q) in
          sym left ∙ (entries ∙ right)

      -- maps that mean the same have entries that mean the same, one by one
      pub ordered_map_means-pairs : (es fs : List (K × V))
          → ordered_map_means R f g es ≡ ordered_map_means R f g fs → meant_pairs es ≡ meant_pairs fs
      ordered_map_means-pairs es fs =
          elim (is_sorted R es) as (λ a. is_sorted R es ≡ a
          → found_means es a ≡ ordered_map_means R f g fs → meant_pairs es ≡ meant_pairs fs) [
            | true ↦ λ p. elim (is_sorted R fs) as (λ b. is_sorted R fs ≡ b
                → table_means (table_of f g es) ≡ found_means fs b → meant_pairs es ≡ meant_pairs fs) [
                  | true ↦ λ q e. pairs_in_order es fs (subst T (sym p) tt) (subst T (sym q) tt)
                      (table_means-injective (table_of f g es) (table_of f g fs) e)
                  | false ↦ λ q e. no_list_is_unordered _ (map paired (meant_pairs fs)) e
                ] refl
            | false ↦ λ p. elim (is_sorted R fs) as (λ b. is_sorted R fs ≡ b
                → unordered (map paired (meant_pairs es)) ≡ found_means fs b
                → meant_pairs es ≡ meant_pairs fs) [
                  | true ↦ λ q e. no_list_is_unordered _ (map paired (meant_pairs es)) (sym e)
                  | false ↦ λ q e. pairs_from_unordered es fs e
                ] refl
          ] refl

-- `==` of the keys and the values, entry by entry, agrees with what the maps mean
pub ordered_maps_tell : {K V : Type 0} (R : K → K → Ordering) (E : K → K → Bool) (f : K → Meaning)
    (D : V → V → Bool) (g : V → Meaning) → IsTotalOrder R → ((x y : K) → E x y ≡ is_eq (R x y))
    → EqAgrees E f → EqAgrees D g
    → EqAgrees (pointwise (λ x y. E x.0 y.0 && D x.1 y.1)) (ordered_map_means R f g)
ordered_maps_tell {K} {V} R E f D g total matches exact reports es fs =
    let order = key_order R E f f total matches exact refl in
    let entries = pairs_tell f E g D exact reports in
    let lists =
    lists_tell (λ (x : K × V). paired (pair_map f g x)) (λ x y. E x.0 y.0 && D x.1 y.1) entries es
    fs in (
      λ e. from_pairs R f g order es fs (pairs_injective _ _ (sym (each_paired es)
          ∙ (listed_injective _ _ (lists.0 e) ∙ each_paired fs))),
      λ e. lists.1 (ap listed (each_paired es
          ∙ (ap (map paired) (ordered_map_means-pairs R f g order es fs e)
          ∙ sym (each_paired fs)))),
    )
  where
    each_paired : (xs : List (K × V)) → map (λ x. paired (pair_map f g x)) xs ≡ map paired
        (map (pair_map f g) xs)
    each_paired [] = refl
    each_paired (x ∷ xs) = ap (λ l. paired (pair_map f g x) ∷ l) (each_paired xs)

-- ==== map order

abbrev pub maps : MeaningOrder → MeaningOrder → MeaningOrder
maps o p = order_by (seen_map o) (slice_cmp (pairs o p).cmp) (lists_total (pairs o p).total)

seen_parts : (ps : List (Meaning × Meaning)) → map parts_of (map paired ps) ≡ ps
seen_parts [] = refl
seen_parts (p ∷ ps) = ap (λ l. p ∷ l) (seen_parts ps)

-- entries in one order, put in another in which they stood
reordered : (o : MeaningOrder) (ps : List (Meaning × Meaning)) → T (is_sorted o.cmp ps)
    → ascending o.cmp (ascending meaning_cmp ps) ≡ ps
reordered o ps sorted =
    let itself = λ (m : Meaning). m in
    let table = table_of-ascending meaning_cmp itself (by_meaning-orders itself meanings) itself ps
    in
    let same =
    ascending_same o.cmp itself (by_meaning-orders itself o) itself (λ p. p)
    (λ x y k l i. (k i, l i)) (ascending meaning_cmp ps) ps table in
    sym (map_itself (ascending o.cmp (ascending meaning_cmp ps)))
    ∙ (same ∙ (map_itself (ascending o.cmp ps) ∙ ascending-sorted o.total ps sorted))

module _ {K V : Type 0} (R : K → K → Ordering) (f : K → Meaning) (o : MeaningOrder)
    (h : Follows R f o) (g : V → Meaning) where
  below_pairs : (x : K) (es : List (K × V)) → below_all R x es
      ≡ below_all o.cmp (f x) ((pairs_of R f o h g) es)
  below_pairs x [] = refl
  below_pairs x (e ∷ es) = λ i. is_lt (h x e.0 i) && below_pairs x es i

  sorted_pairs : (es : List (K × V)) → is_sorted R es ≡ is_sorted o.cmp ((pairs_of R f o h g) es)
  sorted_pairs [] = refl
  sorted_pairs (e ∷ es) = λ i. below_pairs e.0 es i && sorted_pairs es i

  seen : (es : List (K × V)) → seen_map o (ordered_map_means R f g es)
      ≡ map paired ((pairs_of R f o h g) es)
  unfolding seen_map
  seen es =
      let ps = (pairs_of R f o h g) es in
      elim (is_sorted R es) as (λ b. is_sorted R es ≡ b
      → seen_map o (cond b (table_means (table_of f g es)) (unordered (map paired ps))) ≡ map paired
      ps) [
        | true ↦ λ e.
            let Z = ascending meaning_cmp ps in
            let items = map paired Z in
            ap (λ b. cond b (map paired (ascending o.cmp (map parts_of (items_of (listed items)))))
            (items_of (listed items))) (listed_is_list items)
            ∙ (ap (λ l. map paired (ascending o.cmp (map parts_of l))) (seen_items R f o h items)
            ∙ (ap (λ l. map paired (ascending o.cmp l)) (seen_parts Z)
            ∙ ap (map paired) (reordered o ps (subst T (sorted_pairs es) (subst T (sym e) tt)))))
        | false ↦ λ e. ap (λ b. cond b (map paired (ascending o.cmp (map parts_of (items_of
            (unordered (map paired ps)))))) (items_of (unordered (map paired ps))))
            (unordered_is_none (map paired ps)) ∙ seen_unordered (map paired ps)
      ] refl

  module _ (S : V → V → Ordering) (p : MeaningOrder) (k : Follows S g p) where
    each_paired : (es : List (K × V)) → map (λ x. paired (pair_map f g x)) es ≡ map paired
        ((pairs_of R f o h g) es)
    each_paired [] = refl
    each_paired (e ∷ es) = ap (λ l. paired (pair_map f g e) ∷ l) (each_paired es)

    pub maps_follow : Follows (slice_cmp (entry_cmp R f o h g S p k)) (ordered_map_means R f g)
        (maps o p)
    maps_follow xs ys =
        let o' = pairs o p in
        let means = λ (x : K × V). paired (pair_map f g x) in
        let entries : slice_cmp (entry_cmp R f o h g S p k) xs ys
        ≡ slice_cmp o'.cmp (map paired ((pairs_of R f o h g) xs))
        (map paired ((pairs_of R f o h g) ys)) =
        lists_map (entry_cmp R f o h g S p k) means o' (pairs_follow R f o S g p h k) xs ys
        ∙ (λ i. slice_cmp o'.cmp (each_paired xs i) (each_paired ys i)) in
        let shown : slice_cmp (entry_cmp R f o h g S p k) xs ys ≡ slice_cmp o'.cmp
        (seen_map o (ordered_map_means R f g xs)) (seen_map o (ordered_map_means R f g ys)) =
        entries ∙ (λ i. slice_cmp o'.cmp (sym (seen xs) i) (sym (seen ys) i)) in
        let order = subst (λ C. IsOrderOf f C) (followed R f f o h refl) (by_meaning-orders f o) in
        shown ∙ order_by-is (seen_map o) (slice_cmp o'.cmp) (lists_total o'.total)
        (ordered_map_means R f g xs) (ordered_map_means R f g ys) (λ e.
        from_pairs R f g order xs ys
        (pairs_injective ((pairs_of R f o h g) xs) ((pairs_of R f o h g) ys)
        (slice_cmp-IsAntisymmetric o'.same (map paired ((pairs_of R f o h g) xs))
        (map paired ((pairs_of R f o h g) ys))
        (sym entries ∙ (shown ∙ e)))))
