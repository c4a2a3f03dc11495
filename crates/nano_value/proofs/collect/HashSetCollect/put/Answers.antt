use Rattle.nano_value.specs.Sets.{item_set}
use Rattle.nano_meaning.proofs.SetsLaws.{item_set-insert}
use Rattle.nano_meaning.proofs.LastValuesLaws.{one_more_item}
use Rattle.nano_value.proofs.collect.HashSetCollect.put.Goals as goal

pub returns : goal.returns
returns g c = λ items held.
    let f = g.T.Value.means in
    let old = c.args.self.now.keys in
    let new = c.insert.new.self.keys in
    let e = c.in_ok-_added.ensures in
    record {
      distinct = e.unique;
      same = one_more_item (item_set f old) (item_set f new) items (f c.args.item) held.same
          (item_set-insert f g.T.PartialEq.eq g.met.T.Key.exact old new c.args.item held.distinct e.unique e.updates.1 e.updates.3);
    }
