use Rattle.std.proofs.Common.{◌≡◌, ◌<◌, ◌^◌, ◌+◌, ◌*◌, ℕ, SomeIff, sym, ◌∙◌, ap, subst, arith, true}
use Rattle.std.proofs.Common.{length, drop, get_or}
use Rattle.std.specs.Char.{is_ascii_digit, digit_value}
use Rattle.std.specs.Str.Parse.{digits_value_after}
use Rattle.nano_text.specs.Characters.{prefix}
use Rattle.nano_text.proofs.DigitValues.{digit_is, prefix_at_digit, prefix_at_other, prefix_at_end}
use Rattle.nano_text.proofs.run.digits_after.Goals as goal

pub returns-then-not-is_ascii_digit-clause-value : goal.returns-then-not-is_ascii_digit-clause-value
returns-then-not-is_ascii_digit-clause-value c =
    let so_far = c.loop-len.invariant.value in
    let all_is : so_far.0 ≡ digits_value_after 10 c.args.first (prefix is_ascii_digit c.args.bytes.now) = ap (digits_value_after 10 so_far.0) (sym (prefix_at_other c.args.bytes.now c.loop-len.len c.loop-len-test.true (sym c.if-not-is_ascii_digit.ensures.value))) ∙ so_far.2 in
    subst (λ (n : ℕ). SomeIff c.loop-len.value (n < 2 ^ 64) n) all_is so_far.1

pub loop-len-preserved : goal.loop-len-preserved
loop-len-preserved c =
    let bytes = c.args.bytes.now in
    let digit = get_or bytes c.loop-len.len 0 in
    let is_digit : is_ascii_digit digit ≡ true = sym c.if-not-is_ascii_digit.ensures.value in
    let prefix_is = prefix_at_digit bytes c.loop-len.len c.loop-len-test.true is_digit in
    let so_far = c.loop-len.invariant.value in
    let digit_value_is : c.from.result ≡ digit_value digit = c.from.ensures ∙ sym (digit_is digit is_digit) in
    record {
      len = omega (arith, c.loop-len.invariant.len, ap length prefix_is);
      value = (
        so_far.0 * 10 + c.from.result,
        c.with_digit-value.ensures so_far.0 so_far.1,
        ap (λ (n : ℕ). digits_value_after 10 (so_far.0 * 10 + n) (prefix is_ascii_digit (drop (c.loop-len.len + 1) bytes))) digit_value_is ∙ (sym (ap (digits_value_after 10 so_far.0) prefix_is) ∙ so_far.2),
      );
    }

pub returns-clause-value : goal.returns-clause-value
returns-clause-value c =
    let so_far = c.loop-len.invariant.value in
    let all_is : so_far.0 ≡ digits_value_after 10 c.args.first (prefix is_ascii_digit c.args.bytes.now) = ap (digits_value_after 10 so_far.0) (sym (prefix_at_end c.args.bytes.now c.loop-len.len c.loop-len-test.false)) ∙ so_far.2 in
    subst (λ (n : ℕ). SomeIff c.loop-len.value (n < 2 ^ 64) n) all_is so_far.1
