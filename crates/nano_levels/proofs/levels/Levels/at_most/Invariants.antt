-- the chain has as many levels as are counted, and no fewer are counted than are wanted, nor more
-- than the longest chain has
use Rattle.std.proofs.Common.{◌≡◌, ◌≤◌, min}
use Rattle.nano_levels.specs.Chains.{left}
use Rattle.nano_levels.proofs.levels.Levels.at_most.Given as goal

abbrev pub invariant-loop-count : goal.invariant-loop-count
invariant-loop-count l =
    (left l.levels ≡ l.count) × ((min l.fn.limit 128 ≤ l.count) × (l.count ≤ 128))

abbrev pub decreases-loop-count : goal.decreases-loop-count
decreases-loop-count l = l.count
