use Rattle.std.proofs.Common.{List, ℕ, ◌++◌, ap, sym, ◌∙◌}
use Rattle.nano_toml.specs.StatementTable.{key_of}
use Rattle.nano_toml.specs.Reading.{name_view}
use Rattle.nano_toml.specs.Statements.{scope}
use Rattle.nano_toml.specs.Data.{table_view}
use Rattle.nano_toml.proofs.BuildLemmas.{Stands-scope, NoneNamed-scope}
use Rattle.nano_toml.proofs.StatementLists.{plain_push, scope_of-scope}
use Rattle.nano_toml.proofs.table.Builder.add.Goals as goal

pub returns-in_ok-push_str-in-Scope-clause-built : goal.returns-in_ok-push_str-in-Scope-clause-built
returns-in_ok-push_str-in-Scope-clause-built c done built plain =
    let name = name_view c.in-Scope.name in
    let root = table_view c.args.self.now.root.entries in
    let table = table_view c.args.self.now.table.entries in
    rw c.in-Scope.is (record {
      in_scope = c.in_ok-push_str-in-Scope.ensures.bytes ∙ (ap (λ (bytes : List ℕ). bytes ++ c.as_str.result.now) c.clear.ensures.bytes ∙ (c.as_str.ensures ∙ sym (scope_of-scope done name)));
      lawful = NoneNamed-scope done name built.lawful;
      plain = plain_push done (scope name) built.plain tt;
      stands = Stands-scope done root (key_of c.args.self.now.key) table name built.stands;
    })
