use Rattle.std.proofs.Common.{◌≡◌, ℕ, ◌<◌, zero, suc, List, [], ◌∷◌, length, IsSome, ap, ◌∙◌, subst}
use Rattle.std.proofs.Common.{sym, arith, rules}
use Rattle.nano_toml.specs.Data.{Data, tables, view, tables_view}
use Rattle.nano_toml.specs.Kinds.{index_of, table_at}
use Rattle.nano_toml.proofs.TableViews.{view-Array, Map}
use Rattle.test_formats.proofs.toml_tests.is_second_of_one.Goals as goal

-- there is a table at each place
has_table : (ms : List Map) (i : ℕ) → i < length ms → IsSome (table_at (tables_view ms) i)
has_table [] i h = absurd (omega arith)
has_table (m ∷ ms) zero h = search rules
has_table (m ∷ ms) (suc i) h = has_table ms i (omega arith)

pub index-requires : goal.index-requires
index-requires c =
    let is : view c.args.value.now ≡ tables (tables_view c.in-Array.tables.items) = ap view c.in-Array.is ∙ view-Array c.in-Array.tables in
    subst (λ (d : Data). IsSome (index_of d 1)) (sym is) (has_table c.in-Array.tables.items 1 (omega (arith, c.in-Array.tables.ok.0)))
