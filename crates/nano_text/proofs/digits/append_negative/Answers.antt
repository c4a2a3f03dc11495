use Rattle.std.proofs.Common.{◌∷◌, ◌-◌, replicate, length-set, arith, ◌∙◌, sym, string_bytes}
use Rattle.std.proofs.lemmas.Fmt.{IsAscii-decimal, length-decimal-le}
use Rattle.std.proofs.lemmas.Str.Ascii.{IsAscii-cons}
use Rattle.std.specs.Fmt.{decimal}
use Rattle.nano_text.proofs.DigitValues.{appended_as, minus_written, written_ascii, written_taken}
use Rattle.nano_text.proofs.digits.append_negative.Goals as goal

pub write_digits-first-requires : goal.write_digits-first-requires
write_digits-first-requires c =
    let few = length-decimal-le 19 c.args.magnitude (omega arith) (omega arith) (omega arith) in
    record { within = (omega (arith, few), omega arith) }

pub overflow_sub-buffer : goal.overflow_sub-buffer
overflow_sub-buffer c =
    let few = length-decimal-le 19 c.args.magnitude (omega arith) (omega arith) (omega arith) in
    omega (arith, few, c.write_digits-first.ensures.start)

pub overflow_sub-first : goal.overflow_sub-first
overflow_sub-first c =
    let few = length-decimal-le 19 c.args.magnitude (omega arith) (omega arith) (omega arith) in
    omega (arith, few, c.write_digits-first.ensures.start)

pub append_written-requires-clause-ascii : goal.append_written-requires-clause-ascii
append_written-requires-clause-ascii c =
    let w = c.write_digits-first in
    let few = length-decimal-le 19 c.args.magnitude (omega arith) (omega arith) (omega arith) in
    let minus = minus_written w.result w.new.buffer (decimal c.args.magnitude) (replicate 20 48) (omega (arith, few, w.ensures.start)) (omega (arith, w.ensures.start, w.auto.buffer)) w.ensures.written in
    written_ascii (45 ∷ decimal c.args.magnitude) _ minus (IsAscii-cons 45 _ (omega arith) (IsAscii-decimal c.args.magnitude c.ranges.magnitude.fits))

pub append_written-requires-clause-within : goal.append_written-requires-clause-within
append_written-requires-clause-within c =
    let w = c.write_digits-first in
    let few = length-decimal-le 19 c.args.magnitude (omega arith) (omega arith) (omega arith) in
    (omega (arith, few, w.ensures.start), omega (arith, w.ensures.start), length-set w.new.buffer (w.result - 1) 45 ∙ w.auto.buffer)

pub returns-clause-ok : goal.returns-clause-ok
returns-clause-ok c =
    let w = c.write_digits-first in
    let few = length-decimal-le 19 c.args.magnitude (omega arith) (omega arith) (omega arith) in
    let minus = minus_written w.result w.new.buffer (decimal c.args.magnitude) (replicate 20 48) (omega (arith, few, w.ensures.start)) (omega (arith, w.ensures.start, w.auto.buffer)) w.ensures.written in
    let taken = written_taken (45 ∷ decimal c.args.magnitude) _ minus (w.result - 1) (omega (arith, few, w.ensures.start)) in
    appended_as c.append_written.result (string_bytes c.args.out.now) (string_bytes c.append_written.new.out) _ _ c.append_written.ensures.ok (sym taken)
