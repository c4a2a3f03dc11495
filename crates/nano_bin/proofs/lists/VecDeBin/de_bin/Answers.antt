use Rattle.std.proofs.lemmas.Result.{err_from_is_err_and}
use Rattle.nano_value.specs.Meaning.{listed}
use Rattle.nano_bin_bytes.specs.Containers.{EncodesList}
use Rattle.nano_bin.proofs.Readers.{list_reads, list_rejected, list_items_rejected, image_reads}
use Rattle.nano_bin.proofs.Readers.{image_rejected}
use Rattle.nano_bin.proofs.lists.VecDeBin.de_bin.Goals as goal

pub returns-clause-ok : goal.returns-clause-ok
returns-clause-ok g c = image_reads listed _ _ _ _ (list_reads g.T.BinCodec.bin.encoding.encodes _ _ _ _ _ _ c.in_ok-count.ensures.ok c.in_ok-items.ensures.ok)

pub returns-in_err-count-clause-err : goal.returns-in_err-count-clause-err
returns-in_err-count-clause-err g c =
    let S = g.T.BinCodec.bin.encoding.encodes in
    let p = err_from_is_err_and c.from_residual.result c.from_residual.ensures.1 in
    rw (p.1, p.2) (image_rejected (EncodesList S) listed (list_rejected S c.in_err-count.ensures.err.none))

pub returns-in_err-items-clause-err : goal.returns-in_err-items-clause-err
returns-in_err-items-clause-err g c =
    let S = g.T.BinCodec.bin.encoding.encodes in
    let p = err_from_is_err_and c.from_residual-in_err-items.result c.from_residual-in_err-items.ensures.1 in
    rw (p.1, p.2) (image_rejected (EncodesList S) listed (list_items_rejected S c.in_ok-count.ensures.ok c.in_err-items.ensures.err))
