-- What is proved of Ascending.
use Rattle.std.specs.Prelude.{◌≡◌, ◌+◌, ◌<◌, Bool, true, false, cond, ◌&&◌, T, refl, List, [], ◌∷◌}
use Rattle.std.specs.Prelude.{◌++◌, map, length, Option, Some, None, is_some}
use Rattle.std.specs.List.{AllByRecursion}
use Rattle.std.specs.Option.{option_map, unwrap_or}
use Rattle.std.specs.Bool.{one_answer}
use Rattle.std.specs.declared.cmp.Ordering.{Ordering}
use Rattle.std.specs.declared.cmp.Ordering.TheVariants.{Less, Equal, Greater}
use Rattle.std.specs.Ordering.{is_lt, is_eq, eq_by_cmp}
use Rattle.std.specs.Cmp.{IsTotalOrder}
use Rattle.std.specs.FinMap as table
use Rattle.std.specs.FinMap.{FinMap}
use Rattle.std.specs.FinMap.Entries.{by_order, below_all, put, is_sorted}
use Rattle.std.specs.Map.{lookup, keys_of}
use Rattle.std.proofs.Common.{sym, ◌∙◌, subst, ap, append_assoc}
use Rattle.std.proofs.lemmas.List.{append-nil, length-map}
use Rattle.std.proofs.lemmas.Map.Keys.{IsDistinct-from_sorted}
use Rattle.nano_meaning.specs.Meaning.{Meaning, pair_map, usize_bound, EqAgrees, BothOfPair}
use Rattle.nano_meaning.specs.Meaning.{AllOfList}
use Rattle.nano_meaning.specs.Order.{meaning_cmp}
use Rattle.nano_meaning.proofs.OrderLaws.{meaning_cmp-total, meaning_cmp-antisymmetric}
use Rattle.nano_meaning.proofs.OrderLaws.{same_meaning, same_meaning-decides}
use Rattle.nano_meaning.proofs.MeaningLaws.{all-map}
use Rattle.nano_meaning.specs.Tables.{Table, table_of, insert_all, last_values, AllOfTable}
use Rattle.nano_meaning.specs.Tables.{ascending, IsOrderOf}
use Rattle.nano_meaning.proofs.TablesLaws.{no_entries, get-table_of}
use Rattle.nano_meaning.proofs.SortedEntriesLaws.{equal, same_values, all_found, strictly_sorted}
use Rattle.nano_meaning.proofs.SortedEntriesLaws.{put_last, above_earlier}

-- the order of a type whose `==` agrees with what its values mean
pub key_order : {K : Type 0} (R : K → K → Ordering) (E : K → K → Bool) (means written : K → Meaning)
    → IsTotalOrder R → ((x y : K) → E x y ≡ is_eq (R x y)) → EqAgrees E means → written ≡ means
    → IsOrderOf written R
key_order R E means written total matches exact is =
    subst (λ f. IsOrderOf f R) (sym is) (record {
      total = total;
      decides =
          λ x y. (λ e. (exact x y).0 (matches x y ∙ e), λ e. sym (matches x y) ∙ (exact x y).1 e);
    })

-- ---- entries that are in order are unchanged

module _ {K X : Type 0} {R : K → K → Ordering} (o : IsTotalOrder R) where
  insert_all-sorted : (t : FinMap R X) (es : List (K × X)) → T (is_sorted R (table.entries t ++ es))
      → table.entries (insert_all t es) ≡ table.entries t ++ es
  insert_all-sorted t [] h = sym (append-nil (table.entries t))
  insert_all-sorted t (e ∷ es) h =
      let placed : table.entries (table.insert t e.0 e.1) ≡ table.entries t ++ e ∷ [] =
      table.entries-insert o t e.0 e.1
      ∙ put_last o e.0 e.1 (table.entries t) (above_earlier o (table.entries t) e es h) in
      let whole : table.entries (table.insert t e.0 e.1) ++ es ≡ table.entries t ++ e ∷ es =
      ap (λ l. l ++ es) placed ∙ append_assoc (table.entries t) (e ∷ []) es in
      insert_all-sorted (table.insert t e.0 e.1) es (subst (λ l. T (is_sorted R l)) (sym whole) h)
      ∙ whole

  pub ascending-sorted : (es : List (K × X)) → T (is_sorted R es) → ascending R es ≡ es
  ascending-sorted es h =
      insert_all-sorted table.empty es (subst (λ l. T (is_sorted R (l ++ es))) (sym (no_entries R))
      h) ∙ ap (λ l. l ++ es) (no_entries R)

-- ---- entries that mean the same are written alike

some_map : {X Y : Type 0} (g : X → Y) (b : Bool) (v : X) (u : Option X)
    → option_map g (cond b (Some v) u) ≡ cond b (Some (g v)) (option_map g u)
some_map g true v u = refl
some_map g false v u = refl

shadowed : {A : Type 0} (b : Bool) (x y z : A) → cond b x z ≡ cond b x (cond b y z)
shadowed true x y z = refl
shadowed false x y z = refl

swapped : {A : Type 0} (a b : Bool) (x y z : A) → (a ≡ true → b ≡ true → ⊥)
    → cond a x (cond b y z) ≡ cond b y (cond a x z)
swapped true true x y z apart = absurd (apart refl refl)
swapped true false x y z apart = refl
swapped false b x y z apart = refl

module _ {K V X : Type 0} (R : K → K → Ordering) (f : K → Meaning) (order : IsOrderOf f R)
    (g : V → X) where
  agreed : (q k : K) → same_meaning (f q) (f k) ≡ eq_by_cmp R q k
  agreed q k =
      one_answer (same_meaning (f q) (f k)) (eq_by_cmp R q k) (same_meaning-decides (f q) (f k))
      (order.decides q k)

  -- at each key the two have what means the same
  Alike : FinMap R V → Table X → Type 0
  Alike u w = (q : K) → option_map g (table.get u q) ≡ table.get w (f q)

  alike_insert : (u : FinMap R V) (w : Table X) (k : K) (v : V) → Alike u w
      → Alike (table.insert u k v) (table.insert w (f k) (g v))
  unfolding Alike
  alike_insert u w k v h q =
      ap (option_map g) (table.get-insert order.total u k v q)
      ∙ (some_map g (eq_by_cmp R q k) v (table.get u q)
      ∙ ((λ i. cond (sym (agreed q k) i) (Some (g v)) (h q i))
      ∙ sym (table.get-insert meaning_cmp-total w (f k) (g v) (f q))))

  alike_insert_all : (u : FinMap R V) (w : Table X) (es : List (K × V)) → Alike u w
      → Alike (insert_all u es) (insert_all w (map (pair_map f g) es))
  alike_insert_all u w [] h = h
  alike_insert_all u w (e ∷ es) h =
      alike_insert_all (table.insert u e.0 e.1) (table.insert w (f e.0) (g e.1)) es
      (alike_insert u w e.0 e.1 h)

  alike_empty : Alike (table.empty {R = R}) table.empty
  unfolding Alike
  alike_empty q = ap (option_map g) (table.get-empty R q) ∙ sym (table.get-empty meaning_cmp (f q))

  some_same : (x : Option V) → is_some x ≡ is_some (option_map g x)
  some_same None = refl
  some_same (Some x) = refl

  len_alike : (u : FinMap R V) (w : Table X) (es : List (K × V)) → Alike u w
      → table.len u ≡ table.len w → table.len (insert_all u es) ≡ table.len
      (insert_all w (map (pair_map f g) es))
  unfolding Alike
  len_alike u w [] h e = e
  len_alike u w (x ∷ es) h e =
      let there : table.contains_key u x.0 ≡ table.contains_key w (f x.0) =
      some_same (table.get u x.0) ∙ ap is_some (h x.0) in
      len_alike (table.insert u x.0 x.1) (table.insert w (f x.0) (g x.1)) es
      (alike_insert u w x.0 x.1 h)
      (table.len-insert order.total u x.0 x.1
      ∙ ((λ i. cond (there i) (e i) (e i + 1))
      ∙ sym (table.len-insert meaning_cmp-total w (f x.0) (g x.1))))

  -- the entries in order are as many as the table's
  length-ascending : (es : List (K × V)) → length (ascending R es) ≡ table.len (table_of f g es)
  length-ascending es = sym (table.len-entries (last_values {R = R} es))
      ∙ len_alike table.empty table.empty es alike_empty (table.len-empty R V
      ∙ sym (table.len-empty meaning_cmp X))

  -- the entries in order answer what the table does
  find-ascending : (es : List (K × V)) (q : K)
      → option_map g (table.find R q (ascending R es)) ≡ table.get (table_of f g es) (f q)
  unfolding Alike
  find-ascending es q = ap (option_map g) (sym (table.get-entries (last_values {R = R} es) q))
      ∙ alike_insert_all table.empty table.empty es alike_empty q

  module _ {Y : Type 0} (W : K × V → Y) (same : (x y : K × V) → f x.0 ≡ f y.0 → g x.1 ≡ g y.1
      → W x ≡ W y) where
    -- each key with what its entry gives
    abbrev given : List (K × V) → List (K × Y)
    given es = map (λ e. (e.0, W e)) es

    below_given : (x : K) (es : List (K × V)) → below_all R x (given es) ≡ below_all R x es
    below_given x [] = refl
    below_given x (e ∷ es) = ap (λ c. is_lt (R x e.0) && c) (below_given x es)

    sorted_given : (es : List (K × V)) → is_sorted R (given es) ≡ is_sorted R es
    sorted_given [] = refl
    sorted_given (e ∷ es) = λ i. below_given e.0 es i && sorted_given es i

    find-given : (q : K) (es : List (K × V))
        → table.find R q (given es) ≡ option_map (λ v. W (q, v)) (table.find R q es)
    find-given q [] = refl
    find-given q (e ∷ es) =
        elim (eq_by_cmp R q e.0) as (λ c. eq_by_cmp R q e.0 ≡ c
        → cond c (Some (W e)) (table.find R q (given es)) ≡ option_map (λ v. W (q, v))
        (cond c (Some e.1) (table.find R q es))) [
          | true ↦ λ is. ap Some (same e (q, e.1) (sym ((order.decides q e.0).0 is)) refl)
          | false ↦ λ is. find-given q es
        ] refl

    same_found : (q : K) (x y : Option V) → option_map g x ≡ option_map g y
        → option_map (λ v. W (q, v)) x ≡ option_map (λ v. W (q, v)) y
    same_found q None None e = refl
    same_found q None (Some y) e = absurd (cc)
    same_found q (Some x) None e = absurd (cc)
    same_found q (Some x) (Some y) e = let h : g x ≡ g y = cc in ap Some (same (q, x) (q, y) refl h)

    given_values : (es : List (K × V)) → map (λ e. e.1) (given es) ≡ map W es
    given_values [] = refl
    given_values (e ∷ es) = ap (λ l. W e ∷ l) (given_values es)

    -- maps that mean the same have entries in order that give the same
    pub ascending_same : (es fs : List (K × V)) → table_of f g es ≡ table_of f g fs
        → map W (ascending R es) ≡ map W (ascending R fs)
    ascending_same es fs e =
        let in_order : (xs : List (K × V)) → T (is_sorted R (given (ascending R xs))) =
        λ xs. subst T (sym (sorted_given (ascending R xs)))
        (table.entries_sorted (last_values {R = R} xs)) in
        let values =
        same_values order.total (given (ascending R es)) (given (ascending R fs)) (in_order es)
        (in_order fs) (λ q.
        find-given q (ascending R es) ∙ (same_found q _ _ (find-ascending es q
        ∙ (ap (λ w. table.get w (f q)) e ∙ sym (find-ascending fs q)))
        ∙ sym (find-given q (ascending R fs)))) in
        sym (given_values (ascending R es)) ∙ (values ∙ given_values (ascending R fs))

  -- ---- the entries in order are those of the same table

  untied : (q : Meaning) (k x : K) → R k x ≡ Greater → same_meaning q (f x) ≡ true
      → same_meaning q (f k) ≡ true → ⊥
  untied q k x g a b =
      let same_key : f k ≡ f x = sym ((same_meaning-decides q (f k)).0 b)
      ∙ (same_meaning-decides q (f x)).0 a in
      let same_rank : R k x ≡ Equal = equal (R k x) ((order.decides k x).1 same_key) in
      cc

  lookup-put : (q : Meaning) (k : K) (v : V) (es : List (K × V))
      → lookup (λ x. same_meaning q (f x)) (put R k v es) ≡ cond (same_meaning q (f k)) (Some v)
      (lookup (λ x. same_meaning q (f x)) es)
  lookup-put q k v [] = refl
  lookup-put q k v (e ∷ es) =
      elim (R k e.0) as (λ r. R k e.0 ≡ r
      → lookup (λ x. same_meaning q (f x)) (by_order r ((k, v) ∷ e ∷ es) ((e.0, v) ∷ es)
      (e ∷ put R k v es)) ≡ cond (same_meaning q (f k)) (Some v)
      (lookup (λ x. same_meaning q (f x)) (e ∷ es))) [
        | Less ↦ λ p. refl
        | Equal ↦ λ p. shadowed (same_meaning q (f e.0)) (Some v) (Some e.1)
            (lookup (λ x. same_meaning q (f x)) es)
            ∙ ap (λ m. cond (same_meaning q m) (Some v) (lookup (λ x. same_meaning q (f x))
            (e ∷ es))) (sym ((order.decides k e.0).0 (ap is_eq p)))
        | Greater ↦ λ p. ap (cond (same_meaning q (f e.0)) (Some e.1)) (lookup-put q k v es)
            ∙ swapped _ _ _ _ _ (untied q k e.0 p)
      ] refl

  get-entries : (u : FinMap R V) (q : Meaning)
      → table.get (table_of f g (table.entries u)) q ≡ option_map g
      (lookup (λ x. same_meaning q (f x)) (table.entries u))
  get-entries u q =
      get-table_of f g (eq_by_cmp R) order.decides (table.entries u) q
      (IsDistinct-from_sorted R (keys_of (table.entries u)) (strictly_sorted R (table.entries u)
      (table.entries_sorted u)))

  table_of-entries : (u : FinMap R V) (k : K) (v : V)
      → table_of f g (table.entries (table.insert u k v)) ≡ table.insert
      (table_of f g (table.entries u)) (f k) (g v)
  table_of-entries u k v =
      let es = table.entries u in
      table.same_map meaning_cmp-total meaning_cmp-antisymmetric _ _ (λ q.
      get-entries (table.insert u k v) q
      ∙ (ap (λ l. option_map g (lookup (λ x. same_meaning q (f x)) l))
      (table.entries-insert order.total u k v)
      ∙ (ap (option_map g) (lookup-put q k v es)
      ∙ (some_map g (same_meaning q (f k)) v (lookup (λ x. same_meaning q (f x)) es)
      ∙ (ap (cond (same_meaning q (f k)) (Some (g v))) (sym (get-entries u q))
      ∙ sym (table.get-insert meaning_cmp-total (table_of f g es) (f k) (g v) q))))))

  all_entries : (u : FinMap R V) (es : List (K × V))
      → table_of f g (table.entries (insert_all u es)) ≡ insert_all (table_of f g (table.entries u))
      (map (pair_map f g) es)
  all_entries u [] = refl
  all_entries u (e ∷ es) = all_entries (table.insert u e.0 e.1) es
      ∙ ap (λ w. insert_all w (map (pair_map f g) es)) (table_of-entries u e.0 e.1)

  pub table_of-ascending : (es : List (K × V)) → table_of f g (ascending R es) ≡ table_of f g es
  table_of-ascending es = all_entries table.empty es
      ∙ ap (λ l. insert_all (table_of f g l) (map (pair_map f g) es)) (no_entries R)

  -- ---- the entries in order are legal where the table is

  module _ (P : Meaning → Type 0) (Q : X → Type 0) where
    found_legal : (q : Meaning) (x : X) (ps : List (Meaning × X))
        → AllByRecursion (BothOfPair P Q) ps → table.find meaning_cmp q ps ≡ Some x → P q × Q x
    found_legal q x [] h e = absurd (cc)
    found_legal q x (p ∷ ps) h e =
        elim (same_meaning q p.0) as (λ b. same_meaning q p.0 ≡ b
        → cond b (Some p.1) (table.find meaning_cmp q ps) ≡ Some x → P q × Q x) [
          | true ↦ λ s is. (
            subst P (sym ((same_meaning-decides q p.0).0 s)) h.0.0,
            subst Q
                (ap (λ o. unwrap_or o x) is) h.0.1,
          )
          | false ↦ λ s is. found_legal q x ps h.1 is
        ] refl e

    pub all-ascending : (es : List (K × V)) → AllOfTable P Q (table_of f g es)
        → AllOfList (BothOfPair P Q) (map (pair_map f g) (ascending R es))
    all-ascending es h = record {
      count = subst (λ n. n < usize_bound) (sym (length-map (ascending R es) (pair_map f g)
          ∙ length-ascending es)) h.count;
      items = all-map (BothOfPair P Q) (pair_map f g) (ascending R es)
          (all_found order.total (λ k v. P (f k) × Q (g v)) (ascending R es)
          (table.entries_sorted (last_values {R = R} es)) (λ q v is.
          found_legal (f q) (g v) (table.entries (table_of f g es)) h.entries
          (sym (table.get-entries (table_of f g es) (f q))
          ∙ (sym (find-ascending es q) ∙ ap (option_map g) is))));
    }
