-- What the impls of PartialEq and Eq need: laws of the test of SameData.
use Rattle.std.specs.Prelude.{◌≡◌, true, ◌&&◌}
use Rattle.std.specs.Bool.{Decides}
use Rattle.std.specs.Str.{bytes_eq}
use Rattle.std.specs.Cmp.{IsPartialEquivalence, IsEquivalence, decided, booleans_Decides}
use Rattle.std.proofs.Common.{refl, sym, ap, ◌∙◌, true≢false}
use Rattle.std.proofs.lemmas.Bool.Decides.{Decides-int_eq}
use Rattle.std.proofs.lemmas.Slice.Eq.{bytes_eq-Decides}
use Rattle.std.proofs.lemmas.Bool.{and_parts, and_from}
use Rattle.nano_toml.specs.Data.{Data, text, boolean, number, decimal, nan, infinity, date, tables}
use Rattle.nano_toml.specs.Data.{values, Values, no_values, more_values, Tables, no_tables}
use Rattle.nano_toml.specs.Data.{more_tables, Table, no_pairs, more_pairs, view, data_eq, values_eq}
use Rattle.nano_toml.specs.Data.{tables_eq, table_eq, view_eq}

-- what passes the test is the same
mutual
  pub data_eq_same : (a b : Data) → data_eq a b ≡ true → a ≡ b
  data_eq_same (text a) (text b) h = ap text ((bytes_eq-Decides a b).0 h)
  data_eq_same (boolean a) (boolean b) h = ap boolean ((booleans_Decides a b).0 h)
  data_eq_same (number a) (number b) h = ap number ((Decides-int_eq a b).0 h)
  data_eq_same (decimal a) (decimal b) h = ap decimal ((bytes_eq-Decides a b).0 h)
  data_eq_same (nan a) (nan b) h = ap nan ((booleans_Decides a b).0 h)
  data_eq_same (infinity a) (infinity b) h = ap infinity ((booleans_Decides a b).0 h)
  data_eq_same (date a) (date b) h = ap date ((bytes_eq-Decides a b).0 h)
  data_eq_same (tables a) (tables b) h = ap tables (tables_eq_same a b h)
  data_eq_same (values a) (values b) h = ap values (values_eq_same a b h)
  data_eq_same _ _ h = absurd (true≢false (sym h))

  values_eq_same : (a b : Values) → values_eq a b ≡ true → a ≡ b
  values_eq_same no_values no_values h = refl
  values_eq_same (more_values a xs) (more_values b ys) h =
      let k = and_parts (data_eq a b) (values_eq xs ys) h in
      ap (λ c. more_values c xs) (data_eq_same a b k.0)
      ∙ ap (more_values b) (values_eq_same xs ys k.1)
  values_eq_same _ _ h = absurd (true≢false (sym h))

  tables_eq_same : (a b : Tables) → tables_eq a b ≡ true → a ≡ b
  tables_eq_same no_tables no_tables h = refl
  tables_eq_same (more_tables a xs) (more_tables b ys) h =
      let k = and_parts (table_eq a b) (tables_eq xs ys) h in
      ap (λ c. more_tables c xs) (table_eq_same a b k.0)
      ∙ ap (more_tables b) (tables_eq_same xs ys k.1)
  tables_eq_same _ _ h = absurd (true≢false (sym h))

  table_eq_same : (a b : Table) → table_eq a b ≡ true → a ≡ b
  table_eq_same no_pairs no_pairs h = refl
  table_eq_same (more_pairs k a xs) (more_pairs l b ys) h =
      let p = and_parts (bytes_eq k l) (data_eq a b && table_eq xs ys) h in
      let q = and_parts (data_eq a b) (table_eq xs ys) p.1 in
      ap (λ c. more_pairs c a xs) ((bytes_eq-Decides k l).0 p.0)
      ∙ (ap (λ c. more_pairs l c xs) (data_eq_same a b q.0)
      ∙ ap (more_pairs l b) (table_eq_same xs ys q.1))
  table_eq_same _ _ h = absurd (true≢false (sym h))

-- what is the same passes the test
mutual
  pub data_eq_refl : (a : Data) → data_eq a a ≡ true
  data_eq_refl (text a) = (bytes_eq-Decides a a).1 refl
  data_eq_refl (boolean a) = (booleans_Decides a a).1 refl
  data_eq_refl (number a) = (Decides-int_eq a a).1 refl
  data_eq_refl (decimal a) = (bytes_eq-Decides a a).1 refl
  data_eq_refl (nan a) = (booleans_Decides a a).1 refl
  data_eq_refl (infinity a) = (booleans_Decides a a).1 refl
  data_eq_refl (date a) = (bytes_eq-Decides a a).1 refl
  data_eq_refl (tables a) = tables_eq_refl a
  data_eq_refl (values a) = values_eq_refl a

  values_eq_refl : (a : Values) → values_eq a a ≡ true
  values_eq_refl no_values = refl
  values_eq_refl (more_values a xs) = and_from _ _ (data_eq_refl a) (values_eq_refl xs)

  tables_eq_refl : (a : Tables) → tables_eq a a ≡ true
  tables_eq_refl no_tables = refl
  tables_eq_refl (more_tables a xs) = and_from _ _ (table_eq_refl a) (tables_eq_refl xs)

  table_eq_refl : (a : Table) → table_eq a a ≡ true
  table_eq_refl no_pairs = refl
  table_eq_refl (more_pairs k a xs) =
      and_from _ _ ((bytes_eq-Decides k k).1 refl)
      (and_from _ _ (data_eq_refl a) (table_eq_refl xs))

-- the test decides exactly whether two values are the same
pub data_eq-Decides : (a b : Data) → Decides (data_eq a b) (a ≡ b)
data_eq-Decides a b = (data_eq_same a b, λ e. ap (data_eq a) (sym e) ∙ data_eq_refl a)

-- it is symmetric and transitive
pub view_eq_laws : IsPartialEquivalence view_eq
view_eq_laws =
    let e = decided data_eq data_eq-Decides in
    record {
      symm = λ x y. e.symm (view x) (view y);
      trans = λ x y z p q. e.congr (view x) (view y) (view z) p ∙ q;
    }

-- and reflexive: an equivalence
pub view_eq_equiv : IsEquivalence view_eq
view_eq_equiv =
    let e = decided data_eq data_eq-Decides in
    record {
      refl = λ x. e.refl (view x);
      symm = λ x y. e.symm (view x) (view y);
      congr = λ x y z p. e.congr (view x) (view y) (view z) p;
    }
