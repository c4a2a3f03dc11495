-- What is proved of Tables.
use Rattle.std.specs.Prelude.{◌≡◌, ℕ, suc, ◌+◌, ◌≤◌, ◌<◌, ◌^◌, Bool, true, false, cond, refl, List}
use Rattle.std.specs.Prelude.{[], ◌∷◌, ◌++◌, map, length, Option, Some, None}
use Rattle.std.specs.declared.cmp.Ordering.{Ordering}
use Rattle.std.specs.declared.cmp.Ordering.TheVariants.{Less, Equal, Greater}
use Rattle.std.specs.Bool.{one_answer}
use Rattle.std.specs.List.{AllByRecursion, IsDistinct}
use Rattle.std.specs.Option.{option_map}
use Rattle.std.specs.Map.{lookup, keys_of, IsKeyTest, AreApart, KeepsOthers}
use Rattle.std.specs.FinMap as table
use Rattle.std.specs.FinMap.{FinMap}
use Rattle.std.specs.FinMap.Entries.{by_order}
use Rattle.std.proofs.lemmas.Map.Keys.{IsDistinct-head, IsDistinct-tail}
use Rattle.std.proofs.Common.{ap, sym, ◌∙◌, subst, arith}
use Rattle.std.proofs.lemmas.List.{length-map}
use Rattle.nano_meaning.specs.Meaning.{Meaning, paired, pair_map, BothOfPair, AllOfList, EqAgrees}
use Rattle.nano_meaning.proofs.MeaningLaws.{both_injective, listed_injective, image_of, all-map}
use Rattle.nano_meaning.proofs.MeaningLaws.{all_weaker}
use Rattle.nano_meaning.specs.Order.{meaning_cmp}
use Rattle.nano_meaning.proofs.OrderLaws.{meaning_cmp-total, meaning_cmp-antisymmetric}
use Rattle.nano_meaning.proofs.OrderLaws.{same_meaning, same_meaning-decides}
use Rattle.nano_meaning.specs.Tables.{insert_all, last_values, Table, table_of, table_means}
use Rattle.nano_meaning.specs.Tables.{AllOfTable, LegalMap}

-- ---- different tables mean different things

pub pairs_injective : (ps qs : List (Meaning × Meaning)) → map paired ps ≡ map paired qs → ps ≡ qs
pairs_injective [] [] e = refl
pairs_injective [] (q ∷ qs) e = absurd (cc)
pairs_injective (p ∷ ps) [] e = absurd (cc)
pairs_injective (p ∷ ps) (q ∷ qs) e =
    let head : paired p ≡ paired q = cc in
    let tail : map paired ps ≡ map paired qs = cc in
    let parts = both_injective p.0 p.1 q.0 q.1 head in
    λ i. (parts.0 i, parts.1 i) ∷ pairs_injective ps qs tail i

pub table_means-injective : (t u : Table Meaning) → table_means t ≡ table_means u → t ≡ u
table_means-injective t u e =
    table.same_entries_map t u (pairs_injective (table.entries t) (table.entries u)
    (listed_injective _ _ e))

-- ---- what a table has at a key

-- the value at q after the entries are put in, where o is the one before
abbrev pub last : {X : Type 0} → Meaning → List (Meaning × X) → Option X → Option X
last q [] o = o
last q (e ∷ es) o = last q es (cond (same_meaning q e.0) (Some e.1) o)

get-insert_all : {X : Type 0} (t : Table X) (es : List (Meaning × X)) (q : Meaning)
    → table.get (insert_all t es) q ≡ last q es (table.get t q)
get-insert_all t [] q = refl
get-insert_all t (e ∷ es) q = get-insert_all (table.insert t e.0 e.1) es q
    ∙ ap (last q es) (table.get-insert meaning_cmp-total t e.0 e.1 q)

pub get-last_values : {X : Type 0} (es : List (Meaning × X)) (q : Meaning)
    → table.get (last_values {R = meaning_cmp} es) q ≡ last q es None
get-last_values es q = get-insert_all table.empty es q
    ∙ ap (last q es) (table.get-empty meaning_cmp q)

pub insert_all-push : {K X : Type 0} {R : K → K → Ordering} (t : FinMap R X) (es : List (K × X))
    (k : K) (v : X) → insert_all t (es ++ (k, v) ∷ []) ≡ table.insert (insert_all t es) k v
insert_all-push t [] k v = refl
insert_all-push t (e ∷ es) k v = insert_all-push (table.insert t e.0 e.1) es k v

module _ {K V X : Type 0} (f : K → Meaning) (g : V → X) where
  none_last : (q : Meaning) (es : List (K × V)) (o : Option X)
      → AllByRecursion (λ k. same_meaning q (f k) ≡ false) (keys_of es)
      → last q (map (pair_map f g) es) o ≡ o
  none_last q [] o h = refl
  none_last q (e ∷ es) o h = ap (λ b. last q (map (pair_map f g) es) (cond b (Some (g e.1)) o)) h.0
      ∙ none_last q es o h.1

  module _ (E : K → K → Bool) (exact : EqAgrees E f) where
    -- the test for a key's meaning is that for the key
    same_test : (k : K) → (λ (y : K). same_meaning (f k) (f y)) ≡ E k
    same_test k i y =
        one_answer (same_meaning (f k) (f y)) (E k y) (same_meaning-decides (f k) (f y)) (exact k y)
        i

    key_test : (q : Meaning) → IsKeyTest E (λ x. same_meaning q (f x))
    key_test q x y e = ap (λ m. same_meaning m (f y)) ((same_meaning-decides q (f x)).0 e)
        ∙ (λ i. same_test x i y)

    tests_apart : (k : K) (q : Meaning) → same_meaning q (f k) ≡ false
        → AreApart (E k) (λ x. same_meaning q (f x))
    tests_apart k q h x e = ap (same_meaning q) (sym ((exact k x).0 e)) ∙ h

    found_last : (q : Meaning) (es : List (K × V)) → IsDistinct E (keys_of es)
        → last q (map (pair_map f g) es) None ≡ option_map g (lookup (λ k. same_meaning q (f k)) es)
    found_last q [] h = refl
    found_last q (e ∷ es) h =
        elim (same_meaning q (f e.0)) as (λ b. same_meaning q (f e.0) ≡ b
        → last q (map (pair_map f g) es) (cond b (Some (g e.1)) None) ≡ option_map g
        (cond b (Some e.1) (lookup (λ k. same_meaning q (f k)) es))) [
          | true ↦ λ s. none_last q es (Some (g e.1)) (all_weaker (λ y. E e.0 y ≡ false)
              (λ y. same_meaning q (f y) ≡ false) (λ y n. key_test q e.0 y s ∙ n) (keys_of es)
              (IsDistinct-head E e.0 (keys_of es) h))
          | false ↦ λ s. found_last q es (IsDistinct-tail E e.0 (keys_of es) h)
        ] refl

    pub get-table_of : (es : List (K × V)) (q : Meaning) → IsDistinct E (keys_of es)
        → table.get (table_of f g es) q ≡ option_map g (lookup (λ k. same_meaning q (f k)) es)
    get-table_of es q h = get-insert_all table.empty (map (pair_map f g) es) q
        ∙ (ap (last q (map (pair_map f g) es)) (table.get-empty meaning_cmp q) ∙ found_last q es h)

    -- a look-up of a key finds what the table has at its meaning
    pub get_key : (es : List (K × V)) (k : K) → IsDistinct E (keys_of es)
        → table.get (table_of f g es) (f k) ≡ option_map g (lookup (E k) es)
    get_key es k h = get-table_of es (f k) h ∙ ap (λ p. option_map g (lookup p es)) (same_test k)

    -- a map's `insert` is the table's
    pub table_of-insert : (old new : List (K × V)) (k : K) (v : V) → IsDistinct E (keys_of old)
        → IsDistinct E (keys_of new) → lookup (E k) new ≡ Some v → KeepsOthers E (E k) old new
        → table_of f g new ≡ table.insert (table_of f g old) (f k) (g v)
    unfolding KeepsOthers
    table_of-insert old new k v was is at others =
        table.same_map meaning_cmp-total meaning_cmp-antisymmetric _ _ (λ q.
        let after = table.get-insert meaning_cmp-total (table_of f g old) (f k) (g v) q in
        elim (same_meaning q (f k)) as (λ b. same_meaning q (f k) ≡ b
        → table.get (table_of f g new) q ≡ cond b (Some (g v)) (table.get (table_of f g old) q)) [
          | true ↦ λ e. ap (table.get (table_of f g new)) ((same_meaning-decides q (f k)).0 e)
              ∙ (get_key new k is ∙ ap (option_map g) at)
          | false ↦ λ e. get-table_of new q is
              ∙ (ap (option_map g) (others (λ x. same_meaning q (f x)) (key_test q)
              (tests_apart k q e)) ∙ sym (get-table_of old q was))
        ] refl ∙ sym after)

-- ---- which tables are legal

pub no_entries : {K X : Type 0} (R : K → K → Ordering)
    → table.entries (table.empty {X = X} {R = R}) ≡ []
no_entries {K} {X} R =
    none_left (table.entries table.empty) (sym (table.len-entries table.empty)
    ∙ table.len-empty R X)
  where
    none_left : (es : List (K × X)) → length es ≡ 0 → es ≡ []
    none_left [] e = refl
    none_left (x ∷ es) e = absurd (omega arith)

one_more : (b : Bool) (n m : ℕ) → n ≤ m → cond b n (n + 1) ≤ suc m
one_more true n m h = omega arith
one_more false n m h = omega arith

module _ {X : Type 0} (P : Meaning → Type 0) (Q : X → Type 0) where
  all_put : (k : Meaning) (v : X) (es : List (Meaning × X)) → P k → Q v
      → AllByRecursion (BothOfPair P Q) es
      → AllByRecursion (BothOfPair P Q) (table.put meaning_cmp k v es)
  all_put k v [] p q h = ((p, q), tt)
  all_put k v (e ∷ es) p q h =
      elim (meaning_cmp k e.0) as (λ r. AllByRecursion (BothOfPair P Q)
      (by_order r ((k, v) ∷ e ∷ es) ((e.0, v) ∷ es) (e ∷ table.put meaning_cmp k v es))) [
        | Less ↦ ((p, q), h)
        | Equal ↦ ((h.0.0, q), h.1)
        | Greater ↦ (h.0, all_put k v es p q h.1)
      ]

  all_inserted : (t : Table X) (es : List (Meaning × X))
      → AllByRecursion (BothOfPair P Q) (table.entries t) → AllByRecursion (BothOfPair P Q) es
      → AllByRecursion (BothOfPair P Q) (table.entries (insert_all t es))
  all_inserted t [] h all = h
  all_inserted t (e ∷ es) h all =
      let placed = all_put e.0 e.1 (table.entries t) all.0.0 all.0.1 h in
      all_inserted (table.insert t e.0 e.1) es (subst (AllByRecursion (BothOfPair P Q))
      (sym (table.entries-insert meaning_cmp-total t e.0 e.1)) placed) all.1

  len-insert_all : (t : Table X) (es : List (Meaning × X)) (n : ℕ) → table.len t ≤ n
      → table.len (insert_all t es) ≤ n + length es
  len-insert_all t [] n h = omega arith
  len-insert_all t (e ∷ es) n h =
      let longer =
      subst (λ m. m ≤ suc n) (sym (table.len-insert meaning_cmp-total t e.0 e.1))
      (one_more (table.contains_key t e.0) (table.len t) n h) in
      let all = len-insert_all (table.insert t e.0 e.1) es (suc n) longer in
      omega (arith, all)

  -- the table of entries that have the properties
  pub all_of_last_values : (es : List (Meaning × X)) → AllOfList (BothOfPair P Q) es
      → AllOfTable P Q (last_values es)
  all_of_last_values es h =
      let less = h.count in
      let short =
      len-insert_all table.empty es 0 (subst (λ n. n ≤ 0) (sym (table.len-empty meaning_cmp X))
      (omega arith)) in
      record {
        count = omega (arith, less, short);
        entries =
            all_inserted table.empty es (subst (AllByRecursion (BothOfPair P Q))
            (sym (no_entries meaning_cmp)) tt) h.items;
      }

  pub all_of_table_of : {K V : Type 0} (f : K → Meaning) (g : V → X) (es : List (K × V))
      → length es < 2 ^ 63 → AllByRecursion (λ e. P (f e.0) × Q (g e.1)) es
      → AllOfTable P Q (table_of f g es)
  all_of_table_of f g es few all =
      let long = length-map es (pair_map f g) in
      all_of_last_values (map (pair_map f g) es) (record {
        count = omega (arith, long, few);
        items =
            all-map (BothOfPair P Q) (pair_map f g) es all;
      })

-- a map of legal entries is legal
pub map_is_legal : {K V : Type 0} (f : K → Meaning) (P : Meaning → Type 0) (g : V → Meaning)
    (Q : Meaning → Type 0) (es : List (K × V)) → length es < 2 ^ 63
    → AllByRecursion (λ e. P (f e.0) × Q (g e.1)) es → LegalMap P Q (table_means (table_of f g es))
map_is_legal f P g Q es few all =
    image_of table_means (AllOfTable P Q) (table_of f g es) (all_of_table_of P Q f g es few all)

pub all_of_table_weaker : {X : Type 0} (P P' : Meaning → Type 0) (Q Q' : X → Type 0)
    → ((m : Meaning) → P m → P' m) → ((x : X) → Q x → Q' x) → (t : Table X) → AllOfTable P Q t
    → AllOfTable P' Q' t
all_of_table_weaker P P' Q Q' keys values t h =
    record {
      count = h.count;
      entries =
          all_weaker (BothOfPair P Q) (BothOfPair P' Q') (λ e k. (keys e.0 k.0, values e.1 k.1))
          (table.entries t) h.entries;
    }

pub map_weaker : (P P' Q Q' : Meaning → Type 0) → ((m : Meaning) → P m → P' m)
    → ((m : Meaning) → Q m → Q' m) → (m : Meaning) → LegalMap P Q m → LegalMap P' Q' m
map_weaker P P' Q Q' keys values m h =
    record {
      part = h.part;
      has = all_of_table_weaker P P' Q Q' keys values h.part h.has;
      is =
          h.is;
    }
