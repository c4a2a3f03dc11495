use Rattle.std.proofs.lemmas.Result.{err_from_is_err_and}
use Rattle.nano_value.specs.Meaning.{optional}
use Rattle.nano_bin_bytes.specs.Containers.{EncodesOption}
use Rattle.nano_bin.proofs.Readers.{option_rejected, some_rejected, some_reads, none_reads}
use Rattle.nano_bin.proofs.Readers.{unsigned_reads, unsigned_rejected, image_reads, image_rejected}
use Rattle.nano_bin_nested.proofs.options.AnyReadsBinOption.read_bin.Goals as goal

pub returns-clause-ok : goal.returns-clause-ok
returns-clause-ok g c =
    let tag = rw c.if-tag-ne1.false at (unsigned_reads 1 _ _ _ _ c.in_ok-tag.ensures.ok) in
    image_reads optional _ _ _ _ (some_reads g.T.BinCodec.bin.encoding.encodes _ _ _ _ _ tag c.in_ok-value.ensures.ok)

pub returns-in_err-tag-clause-err : goal.returns-in_err-tag-clause-err
returns-in_err-tag-clause-err g c =
    let S = g.T.BinCodec.bin.encoding.encodes in
    let p = err_from_is_err_and c.from_residual.result c.from_residual.ensures.1 in
    rw (p.1, p.2) (image_rejected (EncodesOption S) optional (option_rejected S (unsigned_rejected 1 c.in_err-tag.ensures.err.none)))

pub returns-in_err-value-clause-err : goal.returns-in_err-value-clause-err
returns-in_err-value-clause-err g c =
    let S = g.T.BinCodec.bin.encoding.encodes in
    let tag = rw c.if-tag-ne1.false at (unsigned_reads 1 _ _ _ _ c.in_ok-tag.ensures.ok) in
    let p = err_from_is_err_and c.from_residual-in_err-value.result c.from_residual-in_err-value.ensures.1 in
    rw (p.1, p.2) (image_rejected (EncodesOption S) optional (some_rejected S tag c.in_err-value.ensures.err))

pub returns-then-tag-ne1-clause-ok : goal.returns-then-tag-ne1-clause-ok
returns-then-tag-ne1-clause-ok g c =
    image_reads optional _ _ _ _ (none_reads g.T.BinCodec.bin.encoding.encodes _ _ _ _ (unsigned_reads 1 _ _ _ _ c.in_ok-tag.ensures.ok) c.if-tag-ne1.true)
