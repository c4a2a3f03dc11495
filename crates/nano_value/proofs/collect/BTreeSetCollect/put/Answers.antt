use Rattle.std.proofs.Common.{refl}
use Rattle.std.proofs.lemmas.Map.Keys.{IsDistinct-from_sorted}
use Rattle.std.specs.Ordering.{eq_by_cmp}
use Rattle.nano_meaning.proofs.AscendingLaws.{key_order}
use Rattle.nano_value.specs.Sets.{item_set}
use Rattle.nano_meaning.proofs.SetsLaws.{item_set-insert}
use Rattle.nano_meaning.proofs.LastValuesLaws.{one_more_item}
use Rattle.nano_value.proofs.collect.BTreeSetCollect.put.Goals as goal

pub returns : goal.returns
returns g c = λ items held.
    let f = g.T.Value.means in
    let R = g.T.Ord.cmp in
    let old = c.args.self.now.keys in
    let new = c.insert.new.self.keys in
    let e = c.in_ok-_added.ensures in
    let order = key_order R g.T.PartialEq.eq f f g.met.T.Ord.total g.met.T.Ord.matches_eq g.met.T.Key.exact refl in
    let was = IsDistinct-from_sorted R old held.ordered in
    let is = IsDistinct-from_sorted R new e.ordered in
    record {
      ordered = e.ordered;
      same = one_more_item (item_set f old) (item_set f new) items (f c.args.item) held.same
          (item_set-insert f (eq_by_cmp R) order.decides old new c.args.item was is e.updates.1 e.updates.3);
    }
