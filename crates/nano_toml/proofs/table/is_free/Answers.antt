use Rattle.std.proofs.Common.{◌≡◌, Some, None, option_map, ap, sym, ◌∙◌, refl}
use Rattle.std.specs.Option.{option_copied}
use Rattle.nano_toml.specs.Data.{at, view, table_view}
use Rattle.nano_toml.proofs.TableViews.{at-table_view}
use Rattle.nano_toml.proofs.table.is_free.Goals as goal

pub returns-in-Some : goal.returns-in-Some
returns-in-Some c =
    let there : at c.args.key.now (table_view c.args.table.now.entries) ≡ Some (view c.in-Some.value.now) =
    at-table_view c.args.key.now c.args.table.now.entries ∙ ap (option_map view) (sym c.get.ensures.value ∙ ap option_copied c.in-Some.is) in
    rw there c.is_array.ensures

pub returns-in-None : goal.returns-in-None
returns-in-None c =
    let there : at c.args.key.now (table_view c.args.table.now.entries) ≡ None =
    at-table_view c.args.key.now c.args.table.now.entries ∙ ap (option_map view) (sym c.get.ensures.value ∙ ap option_copied c.in-None.is) in
    rw there (λ _. tt, λ _. refl)
