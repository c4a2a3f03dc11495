use Rattle.std.proofs.Common.{◌≡◌, IsSome, Some, ap, ◌∙◌, sym, subst, arith}
use Rattle.nano_toml.specs.Data.{Data, tables, view, table_view, tables_view}
use Rattle.nano_toml.specs.Kinds.{index_of}
use Rattle.nano_toml.proofs.TableViews.{view-Array, within-table_at, table_at-tables_view, Map}
use Rattle.nano_toml.proofs.value.Toml.index.Goals as goal

pub index-requires : goal.index-requires
index-requires c =
    let is : view c.args.self.now ≡ tables (tables_view c.in-Array.array.items) = ap view c.in-Array.is ∙ view-Array c.in-Array.array in
    let h = within-table_at c.in-Array.array.items c.args.i (subst (λ (d : Data). IsSome (index_of d c.args.i)) is c.requires) in
    omega (arith, c.in-Array.array.ok.0)

pub returns : goal.returns
returns c =
    let is : view c.args.self.now ≡ tables (tables_view c.in-Array.array.items) = ap view c.in-Array.is ∙ view-Array c.in-Array.array in
    let h = within-table_at c.in-Array.array.items c.args.i (subst (λ (d : Data). IsSome (index_of d c.args.i)) is c.requires) in
    ap (λ d. index_of d c.args.i) is ∙ (table_at-tables_view c.in-Array.array.items c.args.i c.index.result.now h
    ∙ ap (λ (m : Map). Some (table_view m.entries)) (sym c.index.ensures))
