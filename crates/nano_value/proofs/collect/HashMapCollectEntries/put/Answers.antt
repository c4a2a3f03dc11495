use Rattle.nano_value.specs.Tables.{table_of}
use Rattle.nano_meaning.proofs.TablesLaws.{table_of-insert}
use Rattle.nano_meaning.proofs.LastValuesLaws.{one_more_entry}
use Rattle.nano_value.proofs.collect.HashMapCollectEntries.put.Goals as goal

pub returns : goal.returns
returns g c = λ pairs held.
    let f = g.K.Value.means in
    let h = g.V.Value.means in
    let old = c.args.self.now.entries in
    let new = c.insert.new.self.entries in
    let e = c.in_ok-_old.ensures in
    record {
      distinct = e.unique;
      same = one_more_entry (table_of f h old) (table_of f h new) pairs (f c.args.key) (h c.args.value) held.same
          (table_of-insert f h g.K.PartialEq.eq g.met.K.Key.exact old new c.args.key c.args.value held.distinct e.unique e.updates.1 e.updates.3);
    }
