-- the bytes that are left
use Rattle.std.proofs.Common.{◌-◌, length}
use Rattle.bench.proofs.copy.Given as goal

abbrev pub decreases-loop-done : goal.decreases-loop-done
decreases-loop-done l = length l.bytes - l.done
