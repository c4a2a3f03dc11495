use Rattle.std.proofs.Common.{length}
use Rattle.derive_nested.proofs.cases.+pairs_proof.Given as goal

abbrev pub decreases-pairs_proof : goal.decreases-pairs_proof
decreases-pairs_proof l = length l.chosen.now
