-- what is appended, and the numbers that are left, are all
use Rattle.std.proofs.Common.{length}
use Rattle.nano_bin_bytes.proofs.CodecLaws.{WritesSoFar}
use Rattle.nano_bin_bytes.proofs.numbers.append_run.Given as goal

abbrev pub invariant-loop-rest : goal.invariant-loop-rest
invariant-loop-rest g l = WritesSoFar g.T.FixedWidth.as_bytes l.fn.output.items l.output.items l.rest l.numbers

abbrev pub decreases-loop-rest : goal.decreases-loop-rest
decreases-loop-rest g l = length l.rest
