use Rattle.nano_bin.proofs.laws.encoded_is_legal.Goals as goal

pub returns : goal.returns
returns g c bytes m h = g.met.T.BinCodec.agrees.is_legal m (g.T.BinCodec.bin.encoding.laws.is_legal bytes m h)
