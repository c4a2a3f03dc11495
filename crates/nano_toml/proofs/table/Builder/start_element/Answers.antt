use Rattle.std.proofs.Common.{true≢false, sym, ◌∙◌}
use Rattle.nano_toml.specs.Statements.{element}
use Rattle.nano_toml.specs.Data.{table_view}
use Rattle.nano_toml.proofs.BuildLemmas.{Stands-element, NoneNamed-element, key_free, key_taken}
use Rattle.nano_toml.proofs.StatementLists.{plain_push, scope_of-element}
use Rattle.nano_toml.proofs.table.Builder.start_element.Goals as goal

pub returns-then-not-is_free-clause-rejected : goal.returns-then-not-is_free-clause-rejected
returns-then-not-is_free-clause-rejected c done built kind more lawful =
    let whole = c.in_ok-end_element.ensures done built in
    key_taken done c.args.key.now (table_view c.end_element.new.self.root.entries) whole.root
    (λ free. true≢false (sym (c.is_free.ensures.1 free) ∙ c.if-not-is_free.true)) more lawful

pub returns-clause-built : goal.returns-clause-built
returns-clause-built c done built =
    let whole = c.in_ok-end_element.ensures done built in
    let key = c.args.key.now in
    let root = table_view c.end_element.new.self.root.entries in
    let free = key_free done key root whole.root whole.lawful whole.plain (c.is_free.ensures.0 c.if-not-is_free.false) in
    record {
      in_scope = whole.in_scope ∙ sym (scope_of-element done key);
      lawful = NoneNamed-element done key whole.lawful free;
      plain = plain_push done (element key) whole.plain tt;
      stands = Stands-element done root (table_view c.end_element.new.self.table.entries) key whole.root whole.empty;
    }
