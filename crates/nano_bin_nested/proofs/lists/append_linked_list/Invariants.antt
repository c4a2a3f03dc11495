-- what is appended, and the items that are left, are all
use Rattle.nano_bin_bytes.proofs.CodecLaws.{WritesSoFar}
use Rattle.nano_bin_nested.proofs.lists.append_linked_list.Given as goal

abbrev pub invariant-loop-item : goal.invariant-loop-item
invariant-loop-item g l = WritesSoFar g.T.BinCodec.bin.canonical.written l.fn.output.items l.output.items l.item-iterator l.items
