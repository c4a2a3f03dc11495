use Rattle.std.proofs.Common.{◌≡◌, Some, None, Option, option_map, ap, ◌∙◌, sym, subst, rules, List}
use Rattle.std.proofs.Common.{ℕ, [], ◌∷◌, ◌++◌}
use Rattle.std.specs.Option.{option_copied_mut}
use Rattle.nano_toml.specs.Data.{Data, at, tables, view, table_view, tables_view}
use Rattle.nano_toml.specs.declared.value.Toml.{Array}
use Rattle.nano_toml.proofs.TableViews.{at-table_view, view-Array, Map}
use Rattle.nano_toml.specs.StatementTable.{CanPush, Puts, pushed}
use Rattle.nano_toml.proofs.OneTable.{Puts-from_updates, OnOk-map}
use Rattle.nano_toml.proofs.table.push_table.Goals as goal

pub push_into-requires : goal.push_into-requires
push_into-requires c =
    let there : at c.args.key.now (table_view c.args.root.now.entries) ≡ Some (view c.in-Some.value.now) =
    at-table_view c.args.key.now c.args.root.now.entries ∙ ap (option_map view) (sym c.get_mut.ensures.value ∙ ap option_copied_mut c.in-Some.is) in
    subst CanPush there c.requires

pub returns-in-Some : goal.returns-in-Some
returns-in-Some c =
    let there : at c.args.key.now (table_view c.args.root.now.entries) ≡ Some (view c.in-Some.value.now) =
    at-table_view c.args.key.now c.args.root.now.entries ∙ ap (option_map view) (sym c.get_mut.ensures.value ∙ ap option_copied_mut c.in-Some.is) in
    let was = sym c.get_mut.ensures.value ∙ ap option_copied_mut c.in-Some.is in
    let updates = (c.get_mut.follows.holds c.push_into.new.value).3 (rw was (search rules)) in
    OnOk-map c.push_into.result (λ is.
    subst (λ (d : Data). Puts (table_view c.args.root.now.entries) c.args.key.now d (table_view (c.get_mut.follows.lender c.push_into.new.value).entries))
    (is ∙ ap (λ (o : Option Data). pushed o (table_view c.args.table.entries)) (sym there))
    (Puts-from_updates c.args.key.now c.args.root.now (c.get_mut.follows.lender c.push_into.new.value) c.push_into.new.value updates)) c.push_into.ensures

pub returns-in_ok-key-in-None : goal.returns-in_ok-key-in-None
returns-in_ok-key-in-None c =
    let there : at c.args.key.now (table_view c.args.root.now.entries) ≡ None =
    at-table_view c.args.key.now c.args.root.now.entries ∙ ap (option_map view) (sym c.get_mut.ensures.value ∙ ap option_copied_mut c.in-None.is) in
    let items : c.push.new.self.items ≡ c.args.table ∷ [] = c.in_ok-push-in-None.ensures.items ∙ ap (λ (ms : List Map). ms ++ c.args.table ∷ []) c.new-tables.ensures.items in
    let one : view (Array c.push.new.self) ≡ pushed (at c.args.key.now (table_view c.args.root.now.entries)) (table_view c.args.table.entries) =
    view-Array c.push.new.self ∙ (ap (λ (ms : List Map). tables (tables_view ms)) items ∙ ap (λ (o : Option Data). pushed o (table_view c.args.table.entries)) (sym there)) in
    let key = c.in_ok-key-in-None.ensures.ok in
    OnOk-map c.put.result (λ is.
    subst (λ (m : Map). Puts (table_view m.entries) c.args.key.now (pushed (at c.args.key.now (table_view c.args.root.now.entries)) (table_view c.args.table.entries)) (table_view c.put.new.table.entries)) c.get_mut.follows.holds-at-none
    (subst (λ (d : Data). Puts (table_view c.get_mut.follows.lender-at-none.entries) c.args.key.now d (table_view c.put.new.table.entries)) one
    (subst (λ (k : List ℕ). Puts (table_view c.get_mut.follows.lender-at-none.entries) k (view (Array c.push.new.self)) (table_view c.put.new.table.entries)) key is))) c.put.ensures
