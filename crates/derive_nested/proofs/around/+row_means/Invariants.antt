use Rattle.std.proofs.Common.{length}
use Rattle.derive_nested.proofs.around.+row_means.Given as goal

abbrev pub decreases-row_means : goal.decreases-row_means
decreases-row_means l = length l.leaves.now
