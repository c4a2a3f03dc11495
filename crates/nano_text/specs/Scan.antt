-- The run that a text begins with, taken as long as it goes: good or not.
use Rattle.std.specs.Prelude.{ℕ, ◌+◌, ◌==◌, ◌||◌, ◌&&◌, nat_lt, Bool, List, [], ◌∷◌, length, Option}
use Rattle.std.specs.Prelude.{Some, None, if◌then◌else◌}
use Rattle.std.specs.Char.{is_ascii_digit}
use Rattle.nano_text.specs.declared.run.ExponentLen.{ExponentLen}
use Rattle.nano_text.specs.Characters.{first_is, prefix, following}
use Rattle.nano_text.specs.Number.{Exponent, is_sign, is_point, is_letter_e}

abbrev pub is_minus_char : ℕ → Bool
is_minus_char c = c == 45

-- the first character, if it passes
abbrev pub first_if : (ℕ → Bool) → List ℕ → Option ℕ
first_if p [] = None
first_if p (c ∷ cs) = if p c then Some c else None

-- the text without its first character, if that passes
abbrev pub after_one : (ℕ → Bool) → List ℕ → List ℕ
after_one p [] = []
after_one p (c ∷ cs) = if p c then cs else (c ∷ cs)

abbrev pub fraction_at : List ℕ → Option (List ℕ)
fraction_at [] = None
fraction_at (c ∷ cs) = if is_point c then Some (prefix is_ascii_digit cs) else None

abbrev pub after_fraction : List ℕ → List ℕ
after_fraction [] = []
after_fraction (c ∷ cs) = if is_point c then following is_ascii_digit cs else (c ∷ cs)

abbrev pub exponent_at : List ℕ → Option Exponent
exponent_at [] = None
exponent_at (c ∷ cs) =
    if is_letter_e c
    then Some (record {
      letter = c;
      minus = first_is is_minus_char cs;
      digits = prefix is_ascii_digit (after_one is_minus_char cs);
    })
    else None

abbrev pub after_exponent : List ℕ → List ℕ
after_exponent [] = []
after_exponent (c ∷ cs) =
    if is_letter_e c then following is_ascii_digit (after_one is_minus_char cs) else (c ∷ cs)

-- after the sign, the digits, and the fraction
unfoldable pub after_sign : List ℕ → List ℕ
after_sign t = after_one is_sign t

unfoldable pub after_whole : List ℕ → List ℕ
after_whole t = following is_ascii_digit (after_sign t)

unfoldable pub after_run : List ℕ → List ℕ
after_run t = after_exponent (after_fraction (after_whole t))

-- ---- the lengths of a decimal's parts

abbrev pub exponent_len : Exponent → ExponentLen
exponent_len e = record { minus = e.minus; digits = length e.digits }

abbrev pub minus_capacity : Bool → ℕ
minus_capacity minus = if minus then 1 else 0

-- how many characters they take, the point and the letter too
abbrev pub fraction_capacity : Option ℕ → ℕ
fraction_capacity None = 0
fraction_capacity (Some digits) = digits + 1

abbrev pub exponent_capacity : Option ExponentLen → ℕ
exponent_capacity None = 0
exponent_capacity (Some e) = 1 + minus_capacity e.minus + e.digits

-- how many characters come after the point of a good decimal, or after the letter if it has no
-- point
abbrev pub decimal_len : ℕ → Option ℕ → Option ExponentLen → Option ℕ
decimal_len whole None None = None
decimal_len whole (Some digits) None =
    if nat_lt 0 whole || nat_lt 0 digits then Some digits else None
decimal_len whole None (Some e) =
    if nat_lt 0 whole && nat_lt 0 e.digits then Some (minus_capacity e.minus + e.digits) else None
decimal_len whole (Some digits) (Some e) =
    if (nat_lt 0 whole || nat_lt 0 digits) && nat_lt 0 e.digits
    then Some (digits + 1 + minus_capacity e.minus + e.digits)
    else None

-- ---- white space

-- what indents are made of: a space
abbrev pub is_blank : ℕ → Bool
is_blank c = c == 32
