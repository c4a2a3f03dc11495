-- Decimals of JSON, by their text: numbers with a point or an exponent.
use Rattle.std.specs.Prelude.{ℕ, ◌&&◌, not, Bool, true, false, List, [], ◌∷◌, ◌++◌, Option}
use Rattle.std.specs.Prelude.{Some, None, if◌then◌else◌}
use Rattle.std.specs.Char.{is_ascii_digit}
use Rattle.std.specs.Str.{all_ascii_digits}
use Rattle.nano_text.specs.Characters.{first_is, prefix, following}
use Rattle.nano_text.specs.Number.{Exponent, fraction_digits, is_letter_e}
use Rattle.nano_text.specs.Scan.{after_one, after_sign, fraction_at, after_fraction}
use Rattle.nano_text.specs.Scan.{is_minus_char, exponent_at, after_exponent}
use Rattle.nano_value.specs.Meaning.{IsText}
use Rattle.nano_json_tokens.specs.Token.{f64}
use Rattle.nano_json_tokens.specs.Cut.{IsLexeme, starts_number}
use Rattle.nano_json_tokens.specs.Written.{written_text}

-- a decimal is a text that is all of it one lexeme, of a number with a point or an exponent
abbrev pub IsDecimal : List ℕ → Type 0
IsDecimal text = IsLexeme (f64 text) text []

-- a decimal that a program can hold: its length is a `usize`
pub record IsHeldDecimal (text : List ℕ) : Type 0 where
  pub is_decimal : IsDecimal text
  pub is_text : IsText text

-- ---- whether a text is one

abbrev pub is_empty : List ℕ → Bool
is_empty [] = true
is_empty (c ∷ cs) = false

-- a decimal has a digit before its exponent, and one in it
abbrev pub are_parts : List ℕ → Option (List ℕ) → Option Exponent → Bool
are_parts whole None None = false
are_parts whole (Some ds) None = not (is_empty (whole ++ ds))
are_parts whole fraction (Some e) =
    not (is_empty (whole ++ fraction_digits fraction)) && not (is_empty e.digits)

-- a decimal without a sign: digits, a fraction and an exponent, and nothing after them
abbrev pub is_unsigned : List ℕ → Bool
is_unsigned text =
    let pointed = following is_ascii_digit text in
    let powered = after_fraction pointed in
    are_parts (prefix is_ascii_digit text) (fraction_at pointed) (exponent_at powered)
    && is_empty (after_exponent powered)

-- a decimal begins with a sign or a digit
abbrev pub is_decimal : List ℕ → Bool
is_decimal text = first_is starts_number text && is_unsigned (after_sign text)

-- ---- how a text that may be one is written: a decimal as it stands, any other as a string
abbrev pub decimal_text : List ℕ → List ℕ
decimal_text text = if is_decimal text then text else written_text text

-- ---- parts of the test

-- digits alone, and at least one
abbrev pub are_digits : List ℕ → Bool
are_digits text = not (is_empty text) && all_ascii_digits text

-- a letter, an optional minus, and digits
abbrev pub is_exponent : List ℕ → Bool
is_exponent [] = false
is_exponent (c ∷ cs) = is_letter_e c && are_digits (after_one is_minus_char cs)
