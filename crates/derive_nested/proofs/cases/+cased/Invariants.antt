use Rattle.std.proofs.Common.{length}
use Rattle.derive_nested.proofs.cases.+cased.Given as goal

abbrev pub decreases-cased : goal.decreases-cased
decreases-cased l = length l.rest.now
