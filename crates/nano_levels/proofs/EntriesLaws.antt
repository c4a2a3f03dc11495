-- What is proved of the entries of maps whose values hold others: in the order of the keys, and
-- with what the values come to.
use Rattle.std.specs.Prelude.{◌≡◌, ℕ, suc, refl, List, [], ◌∷◌, map, ◌&&◌, cond}
use Rattle.std.specs.declared.cmp.Ordering.{Ordering}
use Rattle.std.specs.declared.cmp.Ordering.TheVariants.{Less, Equal, Greater}
use Rattle.std.specs.Ordering.{is_lt}
use Rattle.std.specs.Cmp.{IsTotalOrder}
use Rattle.std.specs.FinMap as table
use Rattle.std.specs.FinMap.{FinMap}
use Rattle.std.specs.FinMap.Entries.{by_order, below_all, put, is_sorted}
use Rattle.std.specs.List.{AllByRecursion}
use Rattle.std.proofs.Common.{sym, subst, ap}
use Rattle.nano_value.specs.Meaning.{Meaning, paired, pair_map}
use Rattle.nano_value.specs.Ordered.{unordered, ordered_map_means}
use Rattle.nano_value.specs.Tables.{insert_all, last_values, table_of, table_means}
use Rattle.nano_value.specs.Tables.{ascending}
use Rattle.nano_meaning.proofs.TablesLaws.{no_entries}

-- ---- what holds of the values of all entries holds of those in the order of the keys

module _ {K X : Type 0} {R : K → K → Ordering} (total : IsTotalOrder R) (Q : X → Type 0) where
  abbrev HasValue : K × X → Type 0
  HasValue e = Q e.1

  values_put : (k : K) (v : X) (es : List (K × X)) → Q v → AllByRecursion HasValue es
      → AllByRecursion HasValue (put R k v es)
  values_put k v [] q h = (q, tt)
  values_put k v (e ∷ es) q h =
      elim (R k e.0) as (λ r. AllByRecursion HasValue
      (by_order r ((k, v) ∷ e ∷ es) ((e.0, v) ∷ es) (e ∷ put R k v es))) [
        | Less ↦ (q, h)
        | Equal ↦ (q, h.1)
        | Greater ↦ (h.0, values_put k v es q h.1)
      ]

  values_inserted : (t : FinMap R X) (es : List (K × X))
      → AllByRecursion HasValue (table.entries t) → AllByRecursion HasValue es
      → AllByRecursion HasValue (table.entries (insert_all t es))
  values_inserted t [] h all = h
  values_inserted t (e ∷ es) h all =
      let placed = values_put e.0 e.1 (table.entries t) all.0 h in
      values_inserted (table.insert t e.0 e.1) es
      (subst (AllByRecursion HasValue) (sym (table.entries-insert total t e.0 e.1)) placed) all.1

  pub values-ascending : (es : List (K × X)) → AllByRecursion HasValue es
      → AllByRecursion HasValue (ascending R es)
  values-ascending es all =
      values_inserted table.empty es
      (subst (AllByRecursion HasValue) (sym (no_entries R)) tt) all

-- ---- the keys, with what their values come to

abbrev pub with_values : {K V X : Type 0} → (V → X) → List (K × V) → List (K × X)
with_values g es = map (λ e. (e.0, g e.1)) es

module _ {K V X : Type 0} (C : K → K → Ordering) (g : V → X) where
  below_values : (k : K) (es : List (K × V)) → below_all C k (with_values g es) ≡ below_all C k es
  below_values k [] = refl
  below_values k (e ∷ es) = ap (λ b. is_lt (C k e.0) && b) (below_values k es)

  sorted_values : (es : List (K × V)) → is_sorted C (with_values g es) ≡ is_sorted C es
  sorted_values [] = refl
  sorted_values (e ∷ es) = λ i. below_values e.0 es i && sorted_values es i

module _ {K V : Type 0} (f : K → Meaning) (g : V → Meaning) where
  values_mean : (es : List (K × V))
      → map (pair_map f (λ m. m)) (with_values g es) ≡ map (pair_map f g) es
  values_mean [] = refl
  values_mean (e ∷ es) = ap (λ ps. (f e.0, g e.1) ∷ ps) (values_mean es)

  pub table_of-values : (es : List (K × V))
      → table_of f (λ m. m) (with_values g es) ≡ table_of f g es
  table_of-values es = ap last_values (values_mean es)

  pub ordered_map_means-values : (C : K → K → Ordering) (es : List (K × V))
      → ordered_map_means C f (λ m. m) (with_values g es) ≡ ordered_map_means C f g es
  ordered_map_means-values C es i =
      cond (sorted_values C g es i) (table_means (last_values (values_mean es i)))
      (unordered (map paired (values_mean es i)))

-- how deep the values are
pub entries_deep : {K A : Type 0} (d : A → ℕ) (es : List (K × A))
    → map (λ e. suc e.1) (with_values d es) ≡ map (λ e. suc (d e.1)) es
entries_deep d [] = refl
entries_deep d (e ∷ es) = λ i. suc (d e.1) ∷ entries_deep d es i
