use Rattle.std.proofs.Common.{length}
use Rattle.derive_impls.proofs.taking.+taken.Given as goal

abbrev pub decreases-taken : goal.decreases-taken
decreases-taken l = length l.names.now
