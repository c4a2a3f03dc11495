-- the entries are legal if those that are left are
use Rattle.std.specs.List.{AllByRecursion}
use Rattle.nano_value.proofs.ordered_maps.BTreeMapValue.known.Given as goal

abbrev pub invariant-loop-key : goal.invariant-loop-key
invariant-loop-key g l =
    let P = λ (e : g.row.K.Denot × g.row.V.Denot). g.K.Value.legal (g.K.Value.means e.0) × g.V.Value.legal (g.V.Value.means e.1) in
    AllByRecursion P l.key-iterator → AllByRecursion P l.self.entries
