use Rattle.std.proofs.Common.{length}
use Rattle.derive_impls.proofs.rows.+pairs.Given as goal

abbrev pub decreases-pairs : goal.decreases-pairs
decreases-pairs l = length l.leaves.now
