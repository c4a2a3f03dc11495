use Rattle.std.proofs.lemmas.Result.{IfOk-weaker}
use Rattle.nano_bin_bytes.proofs.CodecLaws.{encodes_written}
use Rattle.nano_bin.proofs.RoundTrip.{read_same, read_moved, code_fits, fails_for_memory}
use Rattle.nano_bin.proofs.laws.read_back.Goals as goal

pub returns-clause-ok : goal.returns-clause-ok
returns-clause-ok g c =
    let laws = g.T.BinCodec.bin.encoding.laws in
    let is_encoded = encodes_written g.T.BinCodec.bin g.met.T.BinCodec.agrees g.met.T.DeBin.is_decodable _ c.known.ensures in
    IfOk-weaker c.de_bin.result _ _ (λ read fits at. record {
      same = read_same laws _ _ _ _ _ _ fits is_encoded at;
      moved = read_moved laws _ _ _ _ _ _ fits is_encoded at;
    }) c.de_bin.ensures.ok

pub returns-clause-err : goal.returns-clause-err
returns-clause-err g c =
    let is_encoded = encodes_written g.T.BinCodec.bin g.met.T.BinCodec.agrees g.met.T.DeBin.is_decodable _ c.known.ensures in
    fails_for_memory g.T.BinCodec.bin.encoding.encodes _ _ _ _ c.de_bin.result c.de_bin.ensures.err
    (λ at. code_fits g.T.BinCodec.bin.encoding.encodes _ _ _ _ is_encoded at)
