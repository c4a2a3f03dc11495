-- The place in a text, and the text that is still to be read.
use Rattle.std.specs.Prelude.{◌≡◌, ℕ, ◌+◌, ◌-◌, ◌==◌, ◌<◌, ◌≤◌, List, [], ◌∷◌, ◌++◌, Bool, ◌||◌}
use Rattle.std.specs.Prelude.{nat_lt, nat_le, chars, if◌then◌else◌, length, min, ◌^◌}
use Rattle.std.specs.Str.Iter.{chars_rest}
use Rattle.std.specs.declared.str.Chars.{Chars}
use Rattle.nano_text.specs.declared.place.Place.{Place}
use Rattle.nano_text.specs.Characters.{line_feed}

-- the characters that an iterator over a text still holds
abbrev pub held : Chars → List ℕ
held input = chars (chars_rest input)

-- the characters before the first NUL
abbrev pub before_nul : List ℕ → List ℕ
before_nul [] = []
before_nul (c ∷ cs) = if c == 0 then [] else (c ∷ before_nul cs)

-- the remaining input: the current character and what follows it, up to the first NUL
unfoldable pub remaining : ℕ → Chars → List ℕ
remaining current input = before_nul (current ∷ held input)

-- the remaining input at a place
abbrev pub text_at : Place → Chars → List ℕ
text_at place input = remaining place.cur input

-- the remaining input of a whole input, given as bytes of UTF-8
abbrev pub remaining_text : List ℕ → List ℕ
remaining_text bytes = before_nul (chars bytes)

-- all but the first
abbrev pub tail : List ℕ → List ℕ
tail [] = []
tail (c ∷ cs) = cs

-- one more; it saturates at the greatest number of 64 bits
abbrev pub saturating_next : ℕ → ℕ
saturating_next n = min (n + 1) (2 ^ 64 - 1)

-- the place once the next of these characters is taken
abbrev pub place_after : Place → List ℕ → Place
place_after place [] = record place { cur = 0 }
place_after place (c ∷ cs) =
    if c == line_feed
    then record { cur = c; line = saturating_next place.line; col = 0 }
    else record { cur = c; line = place.line; col = saturating_next place.col }

-- the place once these characters are taken, one by one
abbrev pub passed : Place → List ℕ → Place
passed place [] = place
passed place (c ∷ cs) = passed (place_after place (c ∷ [])) cs

-- some of the characters before were taken, those after are left, and line and column count each
-- that was taken
pub record Passes (old : Place) (before : List ℕ) (new : Place) (after : List ℕ) : Type 0 where
  pub taken : List ℕ
  pub split : before ≡ taken ++ after
  pub line : new.line ≡ (passed old taken).line
  pub col : new.col ≡ (passed old taken).col

-- a reader went on: line and column count each character that was taken, and none of them stands
-- after the text. With what remains they are no more than what remained before: the current
-- character is taken already, and at the end it may be the NUL that ends the text
pub record Advances (old : Place) (before : Chars) (new : Place) (after : Chars) : Type 0 where
  pub passes : Passes old (held before) new (held after)
  pub within : length passes.taken + length (text_at new after) ≤ length (text_at old before)

-- a reader went on, and did not give up: line and column count each character that was taken, and
-- these are as many as remain no more. The current character is taken already, so at the end the
-- last one is the NUL that ends the text, or there is none
pub record Moves (old : Place) (before : Chars) (new : Place) (after : Chars) : Type 0 where
  pub passes : Passes old (held before) new (held after)
  pub within : length (text_at new after) ≤ length (text_at old before)
  pub exact : length (held after)
      ≡ length (held before) - (length (text_at old before) - length (text_at new after))

-- ---- the bytes of a run that is taken at once

-- the byte of a line feed, which is its character
abbrev pub is_line_feed : ℕ → Bool
is_line_feed b = b == line_feed

-- a byte of UTF-8 that a character begins with
abbrev pub begins_character : ℕ → Bool
begins_character b = nat_lt b 128 || nat_le 192 b

-- a byte that is no control character and begins none beyond ASCII
abbrev pub IsInLine : ℕ → Type 0
IsInLine b = (32 ≤ b) × (b < 160)

-- ==== where an error stands in a text

-- before the first character
abbrev pub beginning : Place
beginning = record { cur = 0; line = 0; col = 0 }

-- this line and column count the characters that were taken before a fault: they begin the text,
-- and all but the last of them stand before its first NUL
pub record StandsIn (text : List ℕ) (line column : ℕ) : Type 0 where
  pub taken : List ℕ
  pub after : List ℕ
  pub split : text ≡ taken ++ after
  pub lines : line ≡ (passed beginning taken).line
  pub columns : column ≡ (passed beginning taken).col
  pub within : length taken ≤ length (before_nul text) + 1
