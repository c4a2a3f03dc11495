use Rattle.std.proofs.Common.{arith, rules}
use Rattle.std.proofs.lemmas.Grind.{common_steps}
use Rattle.std.proofs.lemmas.Result.{err_from_is_err_and}
use Rattle.nano_value.specs.Meaning.{text}
use Rattle.nano_bin_bytes.specs.Containers.{EncodesText}
use Rattle.nano_bin.proofs.Readers.{text_reads, text_rejected, text_bytes_rejected, image_reads}
use Rattle.nano_bin.proofs.Readers.{image_rejected}
use Rattle.nano_bin.proofs.texts.StringDeBin.de_bin.Goals as goal

pub returns-clause-ok : goal.returns-clause-ok
returns-clause-ok c = image_reads text _ _ _ _ (text_reads _ _ _ _ _ _ c.in_ok-count.ensures.ok c.in_ok-text.ensures.ok)

pub returns-in_err-count-clause-err : goal.returns-in_err-count-clause-err
returns-in_err-count-clause-err c =
    let p = err_from_is_err_and c.from_residual.result c.from_residual.ensures.1 in
    let r = c.in_err-count.ensures.err in
    rw (p.1, p.2) (record {
      none = image_rejected EncodesText text (text_rejected r.none);
      fault = first_of (search rules, grind (arith, common_steps));
    })

pub returns-in_err-text-clause-err : goal.returns-in_err-text-clause-err
returns-in_err-text-clause-err c =
    let p = err_from_is_err_and c.from_residual-in_err-text.result c.from_residual-in_err-text.ensures.1 in
    let r = c.in_err-text.ensures.err in
    rw (p.1, p.2) (record {
      none = image_rejected EncodesText text (text_bytes_rejected c.in_ok-count.ensures.ok r.none);
      fault = first_of (search rules, grind (arith, common_steps));
    })
