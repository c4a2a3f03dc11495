-- What is written of scalars: the characters, and the tokens that they are cut into.
use Rattle.std.specs.Prelude.{◌≡◌, ℕ, ◌/◌, ◌%◌, ◌==◌, ◌||◌, ◌&&◌, not, nat_lt, Bool, true, false}
use Rattle.std.specs.Prelude.{List, [], ◌∷◌, ◌++◌, if◌then◌else◌, codes, chars}
use Rattle.std.specs.Char.{digit_char}
use Rattle.std.specs.List.{flat_map}
use Rattle.nano_text.specs.String.{Piece, CodeUnit, plain, escaped, scalar, piece_text}
use Rattle.nano_text.specs.Characters.{is_space}
use Rattle.nano_text.specs.Characters.{backslash, backspace, carriage_return, form_feed, letter_b}
use Rattle.nano_text.specs.Characters.{letter_f, letter_n, letter_r, letter_t, line_feed, quote}
use Rattle.nano_text.specs.Characters.{tab}

-- what may follow a written value: white space , : ] }
abbrev pub may_follow : ℕ → Bool
may_follow c = is_space c || (((c == 44) || (c == 58)) || ((c == 93) || (c == 125)))

-- nothing follows, or what may follow a written value does
abbrev pub MayFollow : List ℕ → Type 0
MayFollow [] = Unit {0}
MayFollow (c ∷ cs) = may_follow c ≡ true

-- ---- scalars

abbrev pub written_truth : Bool → List ℕ
written_truth true = codes "true"
written_truth false = codes "false"

-- a control character of ASCII
abbrev pub is_control : ℕ → Bool
is_control c = nat_lt c 32 || (c == 127)

-- the four hexadecimal digits of an ASCII character, in lower case
abbrev pub four_digits : ℕ → CodeUnit
four_digits c = record { a = 48; b = 48; c = digit_char (c / 16); d = digit_char (c % 16) }

-- a character that is written as itself
abbrev pub stands_as_itself : ℕ → Bool
stands_as_itself c = not (is_control c) && (not (c == quote) && not (c == backslash))

-- how a character stands in a written string: as itself, or by an escape
abbrev pub written_piece : ℕ → Piece
written_piece c =
    if c == backspace then escaped letter_b
    else if c == form_feed then escaped letter_f
    else if c == line_feed then escaped letter_n
    else if c == carriage_return then escaped letter_r
    else if c == tab then escaped letter_t
    else if c == backslash then escaped backslash
    else if c == quote then escaped quote
    else if is_control c then scalar (four_digits c)
    else plain c

-- the characters of a text as they stand in a written string
abbrev pub written_characters : List ℕ → List ℕ
written_characters cs = flat_map (λ c. piece_text (written_piece c)) cs

-- a quote, each character as it stands in a written string, a quote; of a text by its bytes of
-- UTF-8
abbrev pub written_text : List ℕ → List ℕ
written_text bytes = quote ∷ (written_characters (chars bytes) ++ quote ∷ [])
