use Rattle.std.proofs.Common.{◌∙◌, ◌++◌, arith, drop, sym, subst, string_bytes, true≢false}
use Rattle.std.proofs.lemmas.Result.{err_from_is_err_and}
use Rattle.nano_bin_bytes.proofs.ErrorsLaws.{passed_on}
use Rattle.nano_document.specs.BinScalars.{EncodesDecimal}
use Rattle.nano_document.specs.Decimals.{IsDecimal}
use Rattle.nano_document.proofs.BinReading.{no_text, no_decimal}
use Rattle.nano_document.proofs.read_bin.read_decimal.Goals as goal

pub returns-in_err-text-clause-err : goal.returns-in_err-text-clause-err
returns-in_err-text-clause-err c =
    let p = err_from_is_err_and c.from_residual.result c.from_residual.ensures.1 in
    let left = drop c.args.offset.now c.args.bytes.now in
    rw (p.1, p.2) (passed_on EncodesDecimal (omega arith) c.in_err-text.ensures.err.none (λ more. no_text (left ++ more)))

pub returns-then-not-is_decimal-clause-err : goal.returns-then-not-is_decimal-clause-err
returns-then-not-is_decimal-clause-err c =
    no_decimal c.args.bytes.now c.args.offset.now c.de_bin.new.offset
    (string_bytes c.in_ok-text.text) c.no_document.result c.in_ok-text.ensures.ok
    (λ is. true≢false (sym (c.is_decimal.ensures.exact.1 (subst IsDecimal
    (sym c.as_str.ensures.value) is)) ∙ c.if-not-is_decimal.true)) c.no_document.ensures
