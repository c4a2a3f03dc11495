-- the items are legal if those that are left are
use Rattle.std.specs.List.{AllByRecursion}
use Rattle.nano_value.proofs.ordered_sets.BTreeSetValue.known.Given as goal

abbrev pub invariant-loop-item : goal.invariant-loop-item
invariant-loop-item g l =
    let P = λ (x : g.row.T.Denot). g.T.Value.legal (g.T.Value.means x) in
    AllByRecursion P l.item-iterator → AllByRecursion P l.self.keys
