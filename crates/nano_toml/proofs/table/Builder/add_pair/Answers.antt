use Rattle.std.proofs.Common.{◌≡◌, string_bytes, ap, sym, ◌∙◌, subst, List, ℕ}
use Rattle.nano_toml.specs.StatementTable.{Puts, key_of, scope_of, full_key}
use Rattle.nano_toml.specs.Statements.{pair}
use Rattle.nano_toml.specs.Data.{view, table_view}
use Rattle.nano_toml.proofs.BuildLemmas.{NoneNamed-pair, Stands-in_element, Stands-in_root}
use Rattle.nano_toml.proofs.StatementLists.{plain_push, scope_of-pair}
use Rattle.nano_toml.proofs.OneTable.{OnOk-map}
use Rattle.nano_toml.proofs.table.Builder.add_pair.Goals as goal

pub returns-then-is_some : goal.returns-then-is_some
returns-then-is_some c done built plain =
    let name = c.args.name.now in
    let means = view c.args.value in
    let root = table_view c.args.self.now.root.entries in
    let old = table_view c.args.self.now.table.entries in
    let new = table_view c.put.new.table.entries in
    let key : string_bytes c.in_ok-key.key ≡ full_key (scope_of done) name =
    c.in_ok-key.ensures ∙ ap (λ (s : List ℕ). full_key s name) (c.as_str.ensures.value ∙ built.in_scope) in
    OnOk-map c.put.result (λ puts. record {
      in_scope = built.in_scope ∙ sym (scope_of-pair done name means);
      lawful = NoneNamed-pair done root (key_of c.args.self.now.key) old name means built.stands built.lawful;
      plain = plain_push done (pair name means) built.plain plain;
      stands = Stands-in_element done root old new c.args.self.now.key name means (sym c.is_some.ensures ∙ c.if-is_some.true) built.stands
          (subst (λ (k : List ℕ). Puts old k means new) key puts);
    }) c.put.ensures

pub returns-else-is_some : goal.returns-else-is_some
returns-else-is_some c done built plain =
    let name = c.args.name.now in
    let means = view c.args.value in
    let old = table_view c.args.self.now.root.entries in
    let new = table_view c.put-else-is_some.new.table.entries in
    let table = table_view c.args.self.now.table.entries in
    let key : string_bytes c.in_ok-key.key ≡ full_key (scope_of done) name =
    c.in_ok-key.ensures ∙ ap (λ (s : List ℕ). full_key s name) (c.as_str.ensures.value ∙ built.in_scope) in
    OnOk-map c.put-else-is_some.result (λ puts. record {
      in_scope = built.in_scope ∙ sym (scope_of-pair done name means);
      lawful = NoneNamed-pair done old (key_of c.args.self.now.key) table name means built.stands built.lawful;
      plain = plain_push done (pair name means) built.plain plain;
      stands = Stands-in_root done old new table c.args.self.now.key name means (sym c.is_some.ensures ∙ c.if-is_some.false) built.stands
          (subst (λ (k : List ℕ). Puts old k means new) key puts);
    }) c.put-else-is_some.ensures
