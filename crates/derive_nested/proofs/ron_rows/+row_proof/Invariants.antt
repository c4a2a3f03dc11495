use Rattle.std.proofs.Common.{◌-◌}
use Rattle.derive_nested.proofs.ron_rows.+row_proof.Given as goal

abbrev pub decreases-row_proof : goal.decreases-row_proof
decreases-row_proof l = l.end - l.from
