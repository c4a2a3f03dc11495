use Rattle.std.proofs.Common.{◌≡◌, ◌+◌, ◌<◌, ◌≤◌, ◌^◌, length, drop}
use Rattle.std.specs.Char.{is_ascii_digit}
use Rattle.std.specs.Str.Parse.{digits_value_after}
use Rattle.nano_text.specs.Characters.{prefix}
use Rattle.nano_text.proofs.whole.digits_within.Given as goal

abbrev pub invariant-loop-len : goal.invariant-loop-len
invariant-loop-len l = record {
  len : length (prefix is_ascii_digit l.bytes) ≡ l.len + length (prefix is_ascii_digit (drop l.len l.bytes));
  value : digits_value_after 10 l.value (prefix is_ascii_digit (drop l.len l.bytes)) ≡ digits_value_after 10 l.first (prefix is_ascii_digit l.bytes);
  few : l.len ≤ 18;
  -- each digit makes ten times as many numbers
  capacity : l.value < 10 ^ (l.len + 1);
}
