use Rattle.std.proofs.Common.{List, ℕ, subst, sym}
use Rattle.std.proofs.lemmas.Result.{IfOk-weaker, IfErr-weaker}
use Rattle.nano_bin_bytes.proofs.CodecLaws.{encodes_written}
use Rattle.nano_bin.proofs.RoundTrip.{for_memory}
use Rattle.nano_bin.proofs.laws.read_back_whole.Goals as goal

pub returns-clause-same : goal.returns-clause-same
returns-clause-same g c =
    let S = g.T.BinCodec.bin.encoding in
    let is_encoded = encodes_written g.T.BinCodec.bin g.met.T.BinCodec.agrees g.met.T.DeBin.is_decodable _ c.known.ensures in
    IfOk-weaker c.deserialize_bin_whole.result _ _ (λ read h is. S.laws.one_value _ _ _ (subst (λ (l : List ℕ). S.encodes l (g.T.Value.means read)) is h) is_encoded) c.deserialize_bin_whole.ensures.ok

pub returns-clause-memory : goal.returns-clause-memory
returns-clause-memory g c =
    let S = g.T.BinCodec.bin.encoding in
    let is_encoded = encodes_written g.T.BinCodec.bin g.met.T.BinCodec.agrees g.met.T.DeBin.is_decodable _ c.known.ensures in
    IfErr-weaker c.deserialize_bin_whole.result _ _ (λ e rejected is. for_memory _ (λ other. rejected other _ (subst (λ (l : List ℕ). S.encodes l (g.T.Value.means c.args.written.now)) (sym is) is_encoded))) c.deserialize_bin_whole.ensures.err
