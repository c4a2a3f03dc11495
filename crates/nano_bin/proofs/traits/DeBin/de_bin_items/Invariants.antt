-- so many items stand between the start and the offset
use Rattle.std.proofs.Common.{map}
use Rattle.nano_bin_bytes.specs.Reading.{Decodes}
use Rattle.nano_bin_bytes.specs.Containers.{EncodesCount}
use Rattle.nano_bin.proofs.traits.DeBin.de_bin_items.Given as goal

abbrev pub invariant-loop : goal.invariant-loop
invariant-loop g l = Decodes (EncodesCount l.counter g.Self.BinCodec.bin.encoding.encodes) l.bytes l.fn.offset (map g.Self.Value.means l.items.items) l.at
