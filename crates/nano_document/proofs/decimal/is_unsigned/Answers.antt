use Rattle.std.proofs.Common.{◌≡◌, ◌≤◌, ◌∙◌, ℕ, List, length, nat_lt, false, sym, arith}
use Rattle.std.proofs.lemmas.Bool.Decides.{nat_tests}
use Rattle.nano_document.proofs.DecimalParts.{empty_by_length, some_alone, none_alone, none_after}
use Rattle.nano_document.proofs.DecimalParts.{ends_after, goes_on_after}
use Rattle.nano_document.proofs.decimal.is_unsigned.Goals as goal

not_less : (xs ys : List ℕ) → length ys ≤ length xs → nat_lt (length xs) (length ys) ≡ false
not_less xs ys h = grind (arith, nat_tests)

pub returns-then-pointed-bytes : goal.returns-then-pointed-bytes
returns-then-pointed-bytes c =
    c.is_exponent.ensures ∙ some_alone c.args.bytes.now c.after_digits-pointed.result.now
    c.after_digits-pointed.ensures c.in_default.ensures c.if-pointed-bytes.true

pub returns-else-pointed-bytes : goal.returns-else-pointed-bytes
returns-else-pointed-bytes c =
    let none = none_alone c.args.bytes.now c.after_digits-pointed.result.now
    c.after_digits-pointed.ensures c.in_default.ensures c.if-pointed-bytes.false in
    not_less c.after_digits-pointed.result.now c.args.bytes.now c.if-pointed-bytes.false ∙ sym none

pub returns-then-bytes-exponent : goal.returns-then-bytes-exponent
returns-then-bytes-exponent c =
    sym (none_after c.args.bytes.now c.after_digits-pointed.result.now c.in-Some.fraction.now
    c.after_digits-exponent.result.now c.after_digits-pointed.ensures c.in-Some.ensures
    c.after_digits-exponent.ensures c.if-bytes-exponent.true)

pub returns-then-is_empty : goal.returns-then-is_empty
returns-then-is_empty c =
    c.if-is_empty.true ∙ sym (ends_after c.args.bytes.now c.after_digits-pointed.result.now
    c.in-Some.fraction.now c.after_digits-exponent.result.now c.after_digits-pointed.ensures
    c.in-Some.ensures c.after_digits-exponent.ensures c.if-bytes-exponent.false
    (sym (c.if-is_empty.ensures ∙ empty_by_length c.after_digits-exponent.result.now)))

pub returns-else-is_empty : goal.returns-else-is_empty
returns-else-is_empty c =
    c.is_exponent-else-is_empty.ensures
    ∙ sym (goes_on_after c.args.bytes.now c.after_digits-pointed.result.now
    c.in-Some.fraction.now c.after_digits-exponent.result.now
    c.after_digits-pointed.ensures c.in-Some.ensures c.after_digits-exponent.ensures
    c.if-bytes-exponent.false
    (sym (c.if-is_empty.ensures ∙ empty_by_length c.after_digits-exponent.result.now)))
