use Rattle.std.proofs.lemmas.Result.{err_from_is_err_and}
use Rattle.nano_value.specs.Meaning.{listed}
use Rattle.nano_bin_bytes.specs.Containers.{EncodesCount}
use Rattle.nano_bin.proofs.Readers.{image_rejected}
use Rattle.nano_bin.proofs.lists.ArrayDeBin.de_bin.Goals as goal

pub returns-in_err-items-clause-err : goal.returns-in_err-items-clause-err
returns-in_err-items-clause-err g c =
    let p = err_from_is_err_and c.from_residual.result c.from_residual.ensures.1 in
    rw (p.1, p.2) (image_rejected (EncodesCount g.row.N g.T.BinCodec.bin.encoding.encodes) listed c.in_err-items.ensures.err)
