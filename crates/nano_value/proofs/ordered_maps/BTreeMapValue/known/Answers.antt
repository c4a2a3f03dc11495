use Rattle.std.proofs.Common.{sym, subst}
use Rattle.std.specs.List.{AllByRecursion}
use Rattle.nano_meaning.proofs.OrderedMapsLaws.{ordered_map_is_legal}
use Rattle.nano_value.proofs.ordered_maps.BTreeMapValue.known.Goals as goal

pub returns : goal.returns
returns g c =
    let K = g.K.Value in
    let V = g.V.Value in
    let P = λ (e : g.row.K.Denot × g.row.V.Denot). K.legal (K.means e.0) × V.legal (V.means e.1) in
    let walk = c.into_iter-key-iterator.ensures.into_iter_gives in
    ordered_map_is_legal g.K.Ord.cmp K.means V.means K.legal V.legal c.args.self.now.entries walk.5 walk.1 (c.loop-key.invariant (subst (AllByRecursion P) (sym c.in-None.ensures.steps.0) tt))
