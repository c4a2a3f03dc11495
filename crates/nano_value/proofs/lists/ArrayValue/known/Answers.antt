use Rattle.std.proofs.Common.{◌≤◌, sym, subst}
use Rattle.nano_meaning.proofs.MeaningLaws.{array_is_legal, all_walked}
use Rattle.nano_value.proofs.lists.ArrayValue.known.Goals as goal

pub returns : goal.returns
returns g c =
    let T = g.T.Value in
    let P = λ (x : g.row.T.Denot). T.legal (T.means x) in
    let past = subst (λ n. n ≤ c.loop-item.item-index) (sym c.type_inv.self) c.loop-item-test.false in
    array_is_legal T.means T.legal g.row.N c.args.self.now c.type_inv.self (all_walked P c.loop-item.item-index c.args.self.now past c.loop-item.invariant)
