-- Where no lexeme stands: how far a reader goes there, and what is left then.
use Rattle.std.specs.Prelude.{◌≡◌, ℕ, ◌<◌, ◌≤◌, ◌==◌, Bool, true, false, List, [], ◌∷◌, ◌++◌}
use Rattle.std.specs.Prelude.{flat_map, length, None, IfSome}
use Rattle.std.specs.Char.{is_ascii_hexdigit}
use Rattle.std.specs.List.{AllByRecursion}
use Rattle.nano_text.specs.Characters.{first_is, quote, backslash, letter_u}
use Rattle.nano_text.specs.Number.{Run, run_text, is_sign, IsRun, IsGood, continues}
use Rattle.nano_text.specs.Scan.{is_minus_char}
use Rattle.nano_text.specs.String.{CodeUnit, IsHex, IsPiece, Piece, piece_text, unit_text}
use Rattle.nano_text.specs.String.{unit_value}

-- ---- numbers

-- the text begins with this run, which has its sign and the minus of its exponent, is as long as it
-- goes and is not good, and that is the rest
pub record BreaksNumber (text rest : List ℕ) : Type 0 where
  pub parts : Run
  pub is_run : IsRun parts
  pub signed : parts.sign ≡ None → first_is is_sign text ≡ false
  pub minus : IfSome parts.exponent
      (λ e. e.minus ≡ false → first_is is_minus_char (e.digits ++ rest) ≡ false)
  pub bad : IsGood parts → ⊥
  pub split : text ≡ run_text parts ++ rest
  pub ends : first_is (continues parts.fraction parts.exponent) rest ≡ false

-- ---- escapes

-- fewer than four hexadecimal digits begin the text, and no further one follows them
pub record BreaksUnit (text rest : List ℕ) : Type 0 where
  pub digits : List ℕ
  pub hex : AllByRecursion (λ c. is_ascii_hexdigit c ≡ true) digits
  pub few : length digits < 4
  pub split : text ≡ digits ++ rest
  pub ends : first_is is_ascii_hexdigit rest ≡ false

abbrev pub is_backslash : ℕ → Bool
is_backslash c = c == backslash

abbrev pub is_letter_u : ℕ → Bool
is_letter_u c = c == letter_u

abbrev pub is_quote : ℕ → Bool
is_quote c = c == quote

-- the first of two surrogates
abbrev pub IsLeading : CodeUnit → Type 0
IsLeading u = (0xD800 ≤ unit_value u) × (unit_value u < 0xDC00)

-- the second
abbrev pub IsTrailing : CodeUnit → Type 0
IsTrailing u = (0xDC00 ≤ unit_value u) × (unit_value u < 0xE000)

-- what comes after a leading surrogate is not \u and a trailing one: it goes wrong at the backslash,
-- at the u, among the digits, or after them
pub data BreaksPair (text rest : List ℕ) : Type 0 where
  no_backslash : text ≡ rest → first_is is_backslash rest ≡ false → BreaksPair text rest
  no_letter : text ≡ backslash ∷ rest → first_is is_letter_u rest ≡ false → BreaksPair text rest
  no_second : (digits : List ℕ) → text ≡ backslash ∷ (letter_u ∷ digits) → BreaksUnit digits rest
      → BreaksPair text rest
  no_trailing : (unit : CodeUnit) → IsHex unit → (IsTrailing unit → ⊥)
      → text ≡ backslash ∷ (letter_u ∷ (unit_text unit ++ rest)) → BreaksPair text rest

-- what comes after \u is no character: a digit lacks, a trailing surrogate comes first, or none
-- comes second
pub data BreaksUnicode (text rest : List ℕ) : Type 0 where
  no_unit : BreaksUnit text rest → BreaksUnicode text rest
  trails : (unit : CodeUnit) → IsHex unit → IsTrailing unit → text ≡ unit_text unit ++ rest
      → BreaksUnicode text rest
  no_pair : (unit : CodeUnit) (after : List ℕ) → IsHex unit → IsLeading unit
      → text ≡ unit_text unit ++ after → BreaksPair after rest → BreaksUnicode text rest

-- what comes after a backslash is nothing, or a u that goes wrong
pub data BreaksEscape (text rest : List ℕ) : Type 0 where
  nothing : text ≡ [] → rest ≡ [] → BreaksEscape text rest
  unicode : (digits : List ℕ) → text ≡ letter_u ∷ digits → BreaksUnicode digits rest
      → BreaksEscape text rest

-- ---- strings

-- the text begins with no quote; or after the pieces that are good it ends, or an escape goes wrong
pub data BreaksString (text rest : List ℕ) : Type 0 where
  no_quote : text ≡ rest → first_is is_quote rest ≡ false → BreaksString text rest
  ended : (pieces : List Piece) → AllByRecursion IsPiece pieces
      → text ≡ quote ∷ flat_map piece_text pieces → rest ≡ [] → BreaksString text rest
  escape : (pieces : List Piece) (after : List ℕ) → AllByRecursion IsPiece pieces
      → text ≡ quote ∷ (flat_map piece_text pieces ++ backslash ∷ after)
      → BreaksEscape after rest → BreaksString text rest
