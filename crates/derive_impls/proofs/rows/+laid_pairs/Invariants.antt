use Rattle.std.proofs.Common.{length}
use Rattle.derive_impls.proofs.rows.+laid_pairs.Given as goal

abbrev pub decreases-laid_pairs : goal.decreases-laid_pairs
decreases-laid_pairs l = length l.texts.now
