use Rattle.std.proofs.Common.{arith, sym, string_bytes}
use Rattle.std.proofs.lemmas.Fmt.{IsAscii-decimal, length-decimal-le}
use Rattle.std.specs.Fmt.{decimal}
use Rattle.nano_text.proofs.DigitValues.{appended_as, written_ascii, written_taken}
use Rattle.nano_text.proofs.digits.append_digits.Goals as goal

pub write_digits-start-requires : goal.write_digits-start-requires
write_digits-start-requires c =
    let few = length-decimal-le 20 c.args.number (omega arith) (omega arith) (omega arith) in
    record { within = (omega (arith, few), omega arith) }

pub append_written-requires-clause-ascii : goal.append_written-requires-clause-ascii
append_written-requires-clause-ascii c =
    written_ascii (decimal c.args.number) _ c.write_digits-start.ensures.written (IsAscii-decimal c.args.number c.ranges.number.fits)

pub append_written-requires-clause-within : goal.append_written-requires-clause-within
append_written-requires-clause-within c =
    let few = length-decimal-le 20 c.args.number (omega arith) (omega arith) (omega arith) in
    (omega (arith, few, c.write_digits-start.ensures.start), omega (arith, c.write_digits-start.ensures.start), c.write_digits-start.auto.buffer)

pub returns-clause-ok : goal.returns-clause-ok
returns-clause-ok c =
    let taken = written_taken (decimal c.args.number) _ c.write_digits-start.ensures.written c.write_digits-start.result c.write_digits-start.ensures.start in
    appended_as c.append_written.result (string_bytes c.args.out.now) (string_bytes c.append_written.new.out) _ _ c.append_written.ensures.ok (sym taken)
