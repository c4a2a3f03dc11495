use Rattle.std.proofs.Common.{◌≡◌, ap, sym, ◌∙◌, Some}
use Rattle.nano_toml.specs.Data.{view, table_view, tables_view, Data, tables}
use Rattle.nano_toml.proofs.TableViews.{view-Array}
use Rattle.nano_toml.specs.StatementTable.{pushed}
use Rattle.nano_toml.proofs.OneTable.{tables_view-push}
use Rattle.nano_toml.proofs.value.Toml.with_table.Goals as goal

pub returns : goal.returns
returns c =
    let was : view c.args.self ≡ tables (tables_view c.in-Array.tables.items) = ap view (c.in-Array.is) ∙ view-Array c.in-Array.tables in
    view-Array c.push.new.self ∙ (ap (λ xs. tables (tables_view xs)) c.in_ok-push-in-Array.ensures.items ∙ (ap tables (tables_view-push c.in-Array.tables.items c.args.table) ∙ ap (λ (d : Data). pushed (Some d) (table_view c.args.table.entries)) (sym was)))
