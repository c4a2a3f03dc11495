use Rattle.nano_meaning.proofs.MeaningLaws.{list_is_legal, all_walked}
use Rattle.nano_value.proofs.lists.RefSliceValue.known.Goals as goal

pub returns : goal.returns
returns g c =
    let T = g.T.Value in
    let P = λ (x : g.row.T.Denot). T.legal (T.means x) in
    list_is_legal T.means T.legal c.args.self.now.now c.count-count.ensures.fits (all_walked P c.loop-item.item-index c.args.self.now.now c.loop-item-test.false c.loop-item.invariant)
