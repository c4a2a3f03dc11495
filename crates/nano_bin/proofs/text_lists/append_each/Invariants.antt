-- what is appended, and the texts that are left, are all
use Rattle.std.proofs.Common.{drop}
use Rattle.nano_bin_bytes.proofs.CodecLaws.{WritesSoFar}
use Rattle.nano_bin_bytes.specs.Containers.{written_string}
use Rattle.nano_bin.proofs.text_lists.append_each.Given as goal

abbrev pub invariant-loop-text : goal.invariant-loop-text
invariant-loop-text l = WritesSoFar written_string l.fn.output.items l.output.items (drop l.text-index l.texts) l.texts
