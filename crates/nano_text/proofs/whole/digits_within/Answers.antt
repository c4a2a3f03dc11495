use Rattle.std.proofs.Common.{arith, get_or, sym}
use Rattle.nano_text.proofs.DigitValues.{digit_small}
use Rattle.nano_text.proofs.WholeNumbers.{few_digits}
use Rattle.nano_text.proofs.whole.digits_within.Goals as goal

pub overflow_mul-value : goal.overflow_mul-value
overflow_mul-value c =
    let l = c.loop-len.invariant in
    let small = few_digits c.loop-len.value c.loop-len.len l.capacity (omega (arith, l.few, c.if-len-eq-MOST.false)) in
    omega (arith, small)

pub overflow_add-value : goal.overflow_add-value
overflow_add-value c =
    let l = c.loop-len.invariant in
    let small = few_digits c.loop-len.value c.loop-len.len l.capacity (omega (arith, l.few, c.if-len-eq-MOST.false)) in
    let digit = digit_small (get_or c.args.bytes.now c.loop-len.len 0) (sym c.if-not-is_ascii_digit.ensures.value) in
    omega (arith, small, c.from.ensures, digit)
