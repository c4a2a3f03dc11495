use Rattle.std.proofs.Common.{◌-◌, length}
use Rattle.nano_text.proofs.Measured.{IsMeasuredTo}
use Rattle.nano_text.proofs.body.line_run.Given as goal

abbrev pub invariant-lanes : goal.invariant-lanes
invariant-lanes l = IsMeasuredTo l.bytes l.len l.columns

abbrev pub decreases-lanes : goal.decreases-lanes
decreases-lanes l = length l.bytes - l.len
