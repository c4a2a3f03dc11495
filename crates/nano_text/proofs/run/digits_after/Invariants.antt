use Rattle.std.proofs.Common.{◌≡◌, ◌+◌, ◌<◌, ◌^◌, ℕ, length, drop, SomeIff}
use Rattle.std.specs.Char.{is_ascii_digit}
use Rattle.std.specs.Str.Parse.{digits_value_after}
use Rattle.nano_text.specs.Characters.{prefix}
use Rattle.nano_text.proofs.run.digits_after.Given as goal

abbrev pub invariant-loop-len : goal.invariant-loop-len
invariant-loop-len l = record {
  len : length (prefix is_ascii_digit l.bytes) ≡ l.len + length (prefix is_ascii_digit (drop l.len l.bytes));
  -- what the digits so far write, however large it is
  value : (all : ℕ) × SomeIff l.value (all < 2 ^ 64) all × (digits_value_after 10 all (prefix is_ascii_digit (drop l.len l.bytes)) ≡ digits_value_after 10 l.first (prefix is_ascii_digit l.bytes));
}
