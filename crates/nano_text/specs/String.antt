-- String lexemes: a quote, pieces, a quote. What a piece is, how it is written, and which character
-- it stands for.
use Rattle.std.specs.Prelude.{◌≡◌, ◌≢◌, ℕ, ◌+◌, ◌-◌, ◌*◌, ◌<◌, ◌≤◌, ◌==◌, ◌⊎◌, ◌&&◌, not, nat_le}
use Rattle.std.specs.Prelude.{Bool, true, List, [], ◌∷◌, ◌++◌, flat_map, map, if◌then◌else◌}
use Rattle.std.specs.Char.{digit_value, is_ascii_hexdigit}
use Rattle.std.specs.List.{AllByRecursion}
use Rattle.nano_text.specs.Characters.{backspace, tab, line_feed, form_feed, carriage_return, quote}
use Rattle.nano_text.specs.Characters.{digit_0, backslash, letter_b, letter_f, letter_n, letter_r}
use Rattle.nano_text.specs.Characters.{letter_t, letter_u}

-- a code unit of UTF-16, by its four hexadecimal digits
pub record CodeUnit : Type 0 where
  pub a : ℕ
  pub b : ℕ
  pub c : ℕ
  pub d : ℕ

-- a character that stands for itself: no quote, no backslash, no NUL
abbrev pub is_plain : ℕ → Bool
is_plain c = not (c == quote) && (not (c == backslash) && not (c == 0))

-- the same, and no control character
abbrev pub is_plain_in_line : ℕ → Bool
is_plain_in_line c = nat_le 32 c && is_plain c

pub data Piece : Type 0 where
  -- a character itself
  plain : ℕ → Piece
  -- a backslash and a character but u
  escaped : ℕ → Piece
  -- \u and a code unit
  scalar : CodeUnit → Piece
  -- \u and a leading surrogate, \u and a trailing one
  pair : CodeUnit → CodeUnit → Piece

abbrev pub unit_text : CodeUnit → List ℕ
unit_text u = u.a ∷ (u.b ∷ (u.c ∷ (u.d ∷ [])))

abbrev pub unit_value : CodeUnit → ℕ
unit_value u =
    ((digit_value u.a * 16 + digit_value u.b) * 16 + digit_value u.c) * 16 + digit_value u.d

abbrev pub IsHex : CodeUnit → Type 0
IsHex u = (is_ascii_hexdigit u.a ≡ true) × (is_ascii_hexdigit u.b ≡ true)
    × (is_ascii_hexdigit u.c ≡ true) × (is_ascii_hexdigit u.d ≡ true)

-- how a piece is written
abbrev pub piece_text : Piece → List ℕ
piece_text (plain c) = c ∷ []
piece_text (escaped c) = backslash ∷ (c ∷ [])
piece_text (scalar u) = backslash ∷ (letter_u ∷ unit_text u)
piece_text (pair u v) = backslash ∷
    (letter_u ∷ (unit_text u ++ (backslash ∷ (letter_u ∷ unit_text v))))

-- what an escape of one character stands for: n r t b f 0, and else itself
abbrev pub escaped_char : ℕ → ℕ
escaped_char c =
    if c == letter_n then line_feed else if c == letter_r then carriage_return
    else if c == letter_t then tab else if c == letter_b then backspace
    else if c == letter_f then form_feed else if c == digit_0 then 0 else c

-- the character that a piece stands for
abbrev pub piece_char : Piece → ℕ
piece_char (plain c) = c
piece_char (escaped c) = escaped_char c
piece_char (scalar u) = unit_value u
piece_char (pair u v) = 0x10000 + (unit_value u - 0xD800) * 0x400 + (unit_value v - 0xDC00)

-- a plain character is no quote, backslash or NUL; u begins no escape of one character; a code unit
-- alone is no surrogate
abbrev pub IsPiece : Piece → Type 0
IsPiece (plain c) = (c ≢ quote) × (c ≢ backslash) × (c ≢ 0)
IsPiece (escaped c) = (c ≢ letter_u) × (c ≢ 0)
IsPiece (scalar u) = IsHex u × ((unit_value u < 0xD800) ⊎ (0xE000 ≤ unit_value u))
IsPiece (pair u v) = IsHex u × IsHex v
    × (0xD800 ≤ unit_value u) × (unit_value u < 0xDC00)
    × (0xDC00 ≤ unit_value v) × (unit_value v < 0xE000)

-- the text begins with a string of these characters, and that is the rest
pub record IsString (text characters rest : List ℕ) : Type 0 where
  pub pieces : List Piece
  pub good : AllByRecursion IsPiece pieces
  pub split : text ≡ quote ∷ (flat_map piece_text pieces ++ quote ∷ rest)
  pub characters_are : characters ≡ map piece_char pieces

-- the text begins with a string in which each character stands for itself and none is a control
-- character, and that is the rest
pub record IsPlainString (text characters rest : List ℕ) : Type 0 where
  pub plain : AllByRecursion (λ c. is_plain_in_line c ≡ true) characters
  pub split : text ≡ quote ∷ (characters ++ quote ∷ rest)
