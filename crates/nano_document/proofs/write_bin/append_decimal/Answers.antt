use Rattle.std.proofs.Common.{◌∙◌, sym, subst, string_bytes, true≢false}
use Rattle.nano_document.specs.Decimals.{IsDecimal}
use Rattle.nano_document.proofs.Deciding.{decimal_tests, other_text}
use Rattle.nano_document.proofs.BinDocuments.{written_decimal, written_no_decimal}
use Rattle.nano_document.proofs.write_bin.append_decimal.Goals as goal

pub returns-then-is_decimal-clause-ok : goal.returns-then-is_decimal-clause-ok
returns-then-is_decimal-clause-ok c =
    let s = c.args.text.now in
    let is = subst IsDecimal c.as_str.ensures.value (c.is_decimal.ensures.exact.0
    c.if-is_decimal.true) in
    rw (written_decimal s (decimal_tests (string_bytes s) is)) c.append_variant.ensures.ok

pub returns-else-is_decimal-clause-ok : goal.returns-else-is_decimal-clause-ok
returns-else-is_decimal-clause-ok c =
    let s = c.args.text.now in
    let other = other_text (string_bytes s) (λ h.
    true≢false (sym (c.is_decimal.ensures.exact.1 (subst IsDecimal (sym c.as_str.ensures.value) h))
    ∙ c.if-is_decimal.false)) in
    rw (written_no_decimal s other) c.append_variant-else-is_decimal.ensures.ok
