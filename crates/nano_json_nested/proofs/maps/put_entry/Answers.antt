use Rattle.std.proofs.Common.{refl}
use Rattle.std.proofs.lemmas.Map.Keys.{IsDistinct-from_sorted}
use Rattle.std.specs.Map.{keys_of}
use Rattle.std.specs.Ordering.{eq_by_cmp}
use Rattle.nano_meaning.proofs.AscendingLaws.{key_order}
use Rattle.nano_value.specs.Tables.{table_of}
use Rattle.nano_meaning.proofs.TablesLaws.{table_of-insert}
use Rattle.nano_meaning.proofs.LastValuesLaws.{one_more_entry}
use Rattle.nano_json_nested.proofs.maps.put_entry.Goals as goal

pub returns : goal.returns
returns g c = λ pairs held.
    let f = g.K.Value.means in
    let h = g.T.NestedJson.means in
    let R = g.K.Ord.cmp in
    let old = c.args.entries.now.entries in
    let new = c.insert.new.self.entries in
    let e = c.in_ok-_replaced.ensures in
    let order = key_order R g.K.PartialEq.eq f f g.met.K.Ord.total g.met.K.Ord.matches_eq g.met.K.Key.exact refl in
    let was = IsDistinct-from_sorted R (keys_of old) held.ordered in
    let is = IsDistinct-from_sorted R (keys_of new) e.ordered in
    record {
      ordered = e.ordered;
      same = one_more_entry (table_of f h old) (table_of f h new) pairs (f c.args.key) (h c.args.value) held.same
          (table_of-insert f h (eq_by_cmp R) order.decides old new c.args.key c.args.value was is e.updates.1 e.updates.3);
    }
