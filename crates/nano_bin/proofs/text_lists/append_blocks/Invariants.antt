-- what is appended, and the texts that are left, are all
use Rattle.std.proofs.Common.{length}
use Rattle.nano_bin_bytes.proofs.CodecLaws.{WritesSoFar}
use Rattle.nano_bin_bytes.specs.Containers.{written_string}
use Rattle.nano_bin.proofs.text_lists.append_blocks.Given as goal

abbrev pub invariant-loop-rest : goal.invariant-loop-rest
invariant-loop-rest l = WritesSoFar written_string l.fn.output.items l.output.items l.rest l.texts

abbrev pub decreases-loop-rest : goal.decreases-loop-rest
decreases-loop-rest l = length l.rest
