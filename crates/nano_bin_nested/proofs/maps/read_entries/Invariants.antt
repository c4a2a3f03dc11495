-- so many entries stand between the count and the offset, and the collection holds them
use Rattle.nano_bin_bytes.specs.Containers.{EncodesPair}
use Rattle.nano_bin.proofs.Collecting.{Collected}
use Rattle.nano_bin_nested.proofs.maps.read_entries.Given as goal

abbrev pub invariant-loop : goal.invariant-loop
invariant-loop g l = Collected g.C.CollectEntries.holds (EncodesPair g.K.BinCodec.bin.encoding.encodes g.T.BinCodec.bin.encoding.encodes) l.counter l.bytes l.initial.at l.entries l.at
