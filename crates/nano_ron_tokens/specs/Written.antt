-- What is written of scalars and between tokens, and what may follow what is written.
use Rattle.std.specs.Prelude.{◌≡◌, ℕ, ◌==◌, ◌||◌, ◌&&◌, not, Bool, zero, suc, true, false, List, []}
use Rattle.std.specs.Prelude.{◌∷◌, ◌++◌, if◌then◌else◌, codes, chars}
use Rattle.std.specs.List.{flat_map}
use Rattle.nano_text.specs.String.{Piece, plain, escaped, piece_text}
use Rattle.nano_text.specs.Characters.{is_space}
use Rattle.nano_text.specs.Characters.{backslash, carriage_return, digit_0, letter_n, letter_r}
use Rattle.nano_text.specs.Characters.{letter_t, line_feed, quote, tab}
use Rattle.nano_text.specs.Place.{saturating_next}
use Rattle.nano_grammar.specs.Items.{Gaps}

-- what may follow a written value: white space , : ) ] }
abbrev pub may_follow : ℕ → Bool
may_follow c = (is_space c || ((c == 44) || (c == 58))) || ((c == 41) || ((c == 93) || (c == 125)))

-- nothing follows, or what may follow a written value does
abbrev pub MayFollow : List ℕ → Type 0
MayFollow [] = Unit {0}
MayFollow (c ∷ cs) = may_follow c ≡ true

-- four spaces for each level
abbrev pub indent : ℕ → List ℕ
indent zero = []
indent (suc d) = codes "    " ++ indent d

-- ---- scalars

abbrev pub written_truth : Bool → List ℕ
written_truth true = codes "true"
written_truth false = codes "false"

-- a character that is written as itself
abbrev pub stands_as_itself : ℕ → Bool
stands_as_itself c = not (c == line_feed) &&
    (not (c == carriage_return) && (not (c == tab) && (not (c == 0)
    && (not (c == backslash) && not (c == quote)))))

-- how a character stands in a written string: as itself, or by an escape
abbrev pub written_piece : ℕ → Piece
written_piece c =
    if c == line_feed then escaped letter_n
    else if c == carriage_return then escaped letter_r
    else if c == tab then escaped letter_t
    else if c == 0 then escaped digit_0
    else if c == backslash then escaped backslash
    else if c == quote then escaped quote
    else plain c

-- the characters of a text as they stand in a written string
abbrev pub written_characters : List ℕ → List ℕ
written_characters cs = flat_map (λ c. piece_text (written_piece c)) cs

-- a quote, each character as it stands in a written string, a quote; of a text by its bytes of
-- UTF-8
abbrev pub written_text : List ℕ → List ℕ
written_text bytes = quote ∷ (written_characters (chars bytes) ++ quote ∷ [])

-- ==== the gaps of lists and tuples

-- each item on a line of its own, with a comma after it
abbrev pub lines : ℕ → Gaps ℕ
lines d = record {
  after_opening = line_feed ∷ [];
  before_item = indent (saturating_next d);
  after_comma = line_feed ∷ [];
  before_closing = indent d;
}

-- an indent before each item
abbrev pub indents : ℕ → Gaps ℕ
indents d = record {
  after_opening = [];
  before_item = indent (saturating_next d);
  after_comma = [];
  before_closing = [];
}

-- a space after each comma
abbrev pub spaces : Gaps ℕ
spaces = record { after_opening = []; before_item = []; after_comma = 32 ∷ []; before_closing = [] }
