-- what is appended, and the entries that are left, are all
use Rattle.nano_bin_bytes.proofs.CodecLaws.{WritesSoFar}
use Rattle.nano_bin_bytes.specs.Containers.{written_pair}
use Rattle.nano_bin_nested.proofs.ordered_maps.append_btree_map.Given as goal

abbrev pub invariant-loop-key : goal.invariant-loop-key
invariant-loop-key g l = WritesSoFar (written_pair g.K.BinCodec.bin.canonical.written g.T.BinCodec.bin.canonical.written) l.fn.output.items l.output.items l.key-iterator l.entries.entries
