use Rattle.std.proofs.Common.{sym, subst}
use Rattle.std.specs.List.{AllByRecursion}
use Rattle.nano_meaning.proofs.SetsLaws.{set_is_legal}
use Rattle.nano_value.proofs.sets.HashSetValue.known.Goals as goal

pub returns : goal.returns
returns g c =
    let T = g.T.Value in
    let P = λ (x : g.row.T.Denot). T.legal (T.means x) in
    set_is_legal T.means T.legal c.args.self.now.keys c.into_iter-item-iterator.ensures.into_iter_gives.1 (c.loop-item.invariant (subst (AllByRecursion P) (sym c.in-None.ensures.steps.0) tt))
