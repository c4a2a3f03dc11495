use Rattle.std.proofs.Common.{sym, subst}
use Rattle.std.specs.List.{AllByRecursion}
use Rattle.nano_meaning.proofs.OrderedSetsLaws.{ordered_is_legal}
use Rattle.nano_value.proofs.ordered_sets.BTreeSetValue.known.Goals as goal

pub returns : goal.returns
returns g c =
    let T = g.T.Value in
    let P = λ (x : g.row.T.Denot). T.legal (T.means x) in
    let walk = c.into_iter-item-iterator.ensures.into_iter_gives in
    ordered_is_legal g.T.Ord.cmp T.means T.legal c.args.self.now.keys walk.4 walk.1 (c.loop-item.invariant (subst (AllByRecursion P) (sym c.in-None.ensures.steps.0) tt))
