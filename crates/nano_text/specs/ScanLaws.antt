-- What is proved of Scan.
use Rattle.std.specs.Prelude.{ℕ, List}
use Rattle.std.specs.Char.{is_ascii_digit}
use Rattle.nano_text.specs.Characters.{prefix}
use Rattle.nano_text.specs.Number.{Run, is_sign}
use Rattle.nano_text.specs.Scan.{first_if, fraction_at, after_fraction, exponent_at, after_sign}
use Rattle.nano_text.specs.Scan.{after_whole}

unfoldable pub run_at : List ℕ → Run
run_at t = record {
  sign = first_if is_sign t;
  whole = prefix is_ascii_digit (after_sign t);
  fraction = fraction_at (after_whole t);
  exponent = exponent_at (after_fraction (after_whole t));
}
