use Rattle.nano_bin_bytes.proofs.CodecLaws.{writes_same}
use Rattle.nano_bin.proofs.laws.same_meaning_same_bytes.Goals as goal

pub returns : goal.returns
returns g c = writes_same g.T.BinCodec.bin g.met.T.BinCodec.agrees _ _
