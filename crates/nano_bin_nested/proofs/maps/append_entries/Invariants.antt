-- what is appended, and the entries that are left, are all
use Rattle.std.proofs.Common.{drop}
use Rattle.std.specs.Map.Iter.{deref_pair}
use Rattle.nano_bin_bytes.proofs.CodecLaws.{WritesSoFar}
use Rattle.nano_bin_bytes.specs.Containers.{written_pair}
use Rattle.nano_bin_nested.proofs.maps.append_entries.Given as goal

abbrev pub invariant-loop-key : goal.invariant-loop-key
invariant-loop-key g l = WritesSoFar (λ e. written_pair g.K.BinCodec.bin.canonical.written g.T.BinCodec.bin.canonical.written (deref_pair e)) l.fn.output.items l.output.items (drop l.key-index l.entries) l.entries
