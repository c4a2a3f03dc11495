-- what comes after the digits is the same from there on
use Rattle.std.proofs.Common.{◌≡◌, drop}
use Rattle.std.specs.Char.{is_ascii_digit}
use Rattle.nano_text.specs.Characters.{following}
use Rattle.nano_document.proofs.decimal.after_digits.Given as goal

abbrev pub invariant-loop-place : goal.invariant-loop-place
invariant-loop-place l =
    following is_ascii_digit l.bytes ≡ following is_ascii_digit (drop l.place l.bytes)
