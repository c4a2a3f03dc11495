use Rattle.nano_bin.proofs.RoundTrip.{same_entries}
use Rattle.nano_bin.proofs.laws.same_entries_same_bytes.Goals as goal

pub returns : goal.returns
returns g c entries others = same_entries g.K.Key.order g.K.BinCodec.bin g.met.K.BinCodec.agrees g.V.BinCodec.bin g.met.V.BinCodec.agrees entries others
