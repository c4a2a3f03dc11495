use Rattle.std.proofs.Common.{◌≡◌, Some, None, ap, sym, ◌∙◌, subst}
use Rattle.nano_toml.specs.StatementTable.{Puts, pushed}
use Rattle.nano_toml.specs.Data.{Table, at, table_view}
use Rattle.nano_toml.proofs.BuildLemmas.{Stands-can_push, Stands-whole, Stands-at_key}
use Rattle.nano_toml.proofs.TableViews.{Map}
use Rattle.nano_toml.proofs.table.Builder.end_element.Goals as goal

pub push_table-requires : goal.push_table-requires
push_table-requires c =
    let root = table_view c.args.self.now.root.entries in
    let table = table_view c.args.self.now.table.entries in
    let key = sym c.take.ensures.value ∙ c.in-Some.is in
    Stands-can_push c.requires.0 root table c.in-Some.key.now
    (Stands-at_key c.requires.0 root table c.args.self.now.key (Some c.in-Some.key) key c.requires.1.stands) c.requires.1.lawful

pub returns-in_ok-push_table : goal.returns-in_ok-push_table
returns-in_ok-push_table c done built =
    let root = table_view c.args.self.now.root.entries in
    let table = table_view c.args.self.now.table.entries in
    let key = sym c.take.ensures.value ∙ c.in-Some.is in
    let moved : table_view c.replace-table.result.entries ≡ table = ap (λ (m : Map). table_view m.entries) c.replace-table.ensures.value in
    let puts = subst (λ (t : Table). Puts root c.in-Some.key.now (pushed (at c.in-Some.key.now root) t) (table_view c.push_table.new.root.entries)) moved c.in_ok-push_table.ensures in
    record {
      in_scope = built.in_scope;
      lawful = built.lawful;
      plain = built.plain;
      none = c.take.ensures.after;
      root = Stands-whole done root (table_view c.push_table.new.root.entries) table c.in-Some.key.now
          (Stands-at_key done root table c.args.self.now.key (Some c.in-Some.key) key built.stands) built.lawful puts;
      empty = ap (λ (m : Map). table_view m.entries) c.replace-table.ensures.after ∙ ap table_view c.new.ensures.empty;
    }

pub returns-in_default : goal.returns-in_default
returns-in_default c done built =
    let root = table_view c.args.self.now.root.entries in
    let table = table_view c.args.self.now.table.entries in
    let stands = Stands-at_key done root table c.args.self.now.key None (sym c.take.ensures.value ∙ c.in_default.is) built.stands in
    record {
      in_scope = built.in_scope;
      lawful = built.lawful;
      plain = built.plain;
      none = c.take.ensures.after;
      root = stands.1;
      empty = stands.2;
    }
