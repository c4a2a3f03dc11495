-- what is appended, and the items that are left, are all
use Rattle.std.proofs.Common.{drop}
use Rattle.std.specs.Map.Iter.{deref}
use Rattle.nano_bin_bytes.proofs.CodecLaws.{WritesSoFar}
use Rattle.nano_bin.proofs.sets.append_hash_set.Given as goal

abbrev pub invariant-loop-item : goal.invariant-loop-item
invariant-loop-item g l = WritesSoFar (λ x. g.T.BinCodec.bin.canonical.written (deref x)) l.fn.output.items l.output.items (drop l.item-index l.items) l.items
