-- so many items stand between the count and the offset, and the collection holds them
use Rattle.nano_bin.proofs.Collecting.{Collected}
use Rattle.nano_bin_nested.proofs.lists.read_items.Given as goal

abbrev pub invariant-loop : goal.invariant-loop
invariant-loop g l = Collected g.C.Collect.holds g.T.BinCodec.bin.encoding.encodes l.counter l.bytes l.initial.at l.items l.at
