use Rattle.std.proofs.lemmas.Result.{err_from_is_err_and}
use Rattle.nano_value.specs.Meaning.{paired}
use Rattle.nano_bin_bytes.specs.Containers.{EncodesPair}
use Rattle.nano_bin.proofs.Readers.{pair_reads, pair_rejected, second_rejected, image_reads}
use Rattle.nano_bin.proofs.Readers.{image_rejected}
use Rattle.nano_bin.proofs.tuples.Tuple2DeBin.de_bin.Goals as goal

pub returns-clause-ok : goal.returns-clause-ok
returns-clause-ok g c =
    let S = g.A.BinCodec.bin.encoding in
    let R = g.B.BinCodec.bin.encoding in
    image_reads paired _ _ _ _ (pair_reads S.encodes R.encodes _ _ _ _ _ _ c.in_ok-first.ensures.ok c.in_ok-second.ensures.ok)

pub returns-in_err-first-clause-err : goal.returns-in_err-first-clause-err
returns-in_err-first-clause-err g c =
    let S = g.A.BinCodec.bin.encoding in
    let R = g.B.BinCodec.bin.encoding in
    let p = err_from_is_err_and c.from_residual.result c.from_residual.ensures.1 in
    rw (p.1, p.2) (image_rejected (EncodesPair S.encodes R.encodes) paired (pair_rejected S.encodes R.encodes c.in_err-first.ensures.err))

pub returns-in_err-second-clause-err : goal.returns-in_err-second-clause-err
returns-in_err-second-clause-err g c =
    let S = g.A.BinCodec.bin.encoding in
    let R = g.B.BinCodec.bin.encoding in
    let p = err_from_is_err_and c.from_residual-in_err-second.result c.from_residual-in_err-second.ensures.1 in
    rw (p.1, p.2) (image_rejected (EncodesPair S.encodes R.encodes) paired (second_rejected S.encodes R.encodes S.laws c.in_ok-first.ensures.ok c.in_err-second.ensures.err))
