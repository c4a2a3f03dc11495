use Rattle.std.proofs.Common.{string_bytes}
use Rattle.std.proofs.lemmas.Fmt.{IsAscii-decimal}
use Rattle.std.proofs.lemmas.Str.{encodes-IsAscii}
use Rattle.nano_text.proofs.DigitValues.{appended_as}
use Rattle.nano_text.proofs.digits.append_unsigned.Goals as goal

pub returns-then-value-lt1000-clause-ok : goal.returns-then-value-lt1000-clause-ok
returns-then-value-lt1000-clause-ok c = appended_as c.append_short.result (string_bytes c.args.out.now) (string_bytes c.append_short.new.out) _ _ c.append_short.ensures.ok (encodes-IsAscii _ (IsAscii-decimal c.args.value c.ranges.value.fits))

pub returns-clause-ok : goal.returns-clause-ok
returns-clause-ok c = appended_as c.append_long.result (string_bytes c.args.out.now) (string_bytes c.append_long.new.out) _ _ c.append_long.ensures.ok (encodes-IsAscii _ (IsAscii-decimal c.args.value c.ranges.value.fits))
