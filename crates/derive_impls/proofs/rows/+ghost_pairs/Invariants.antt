use Rattle.std.proofs.Common.{length}
use Rattle.derive_impls.proofs.rows.+ghost_pairs.Given as goal

abbrev pub decreases-ghost_pairs : goal.decreases-ghost_pairs
decreases-ghost_pairs l = length l.texts.now
