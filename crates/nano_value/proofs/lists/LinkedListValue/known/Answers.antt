use Rattle.std.proofs.Common.{arith, sym, subst}
use Rattle.std.specs.List.{AllByRecursion}
use Rattle.nano_meaning.proofs.MeaningLaws.{list_is_legal}
use Rattle.nano_value.proofs.lists.LinkedListValue.known.Goals as goal

pub returns : goal.returns
returns g c =
    let T = g.T.Value in
    let P = λ (x : g.row.T.Denot). T.legal (T.means x) in
    list_is_legal T.means T.legal c.args.self.now (let small = c.len-count.ensures in omega (arith, small.value, small.fits)) (c.loop-item.invariant (subst (AllByRecursion P) (sym c.in-None.ensures.steps.0) tt))
