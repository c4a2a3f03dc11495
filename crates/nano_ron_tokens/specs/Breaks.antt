-- Where no token is cut from a text: how far a reader goes there, and what is left then.
use Rattle.std.specs.Prelude.{◌≡◌, ℕ, ◌==◌, Bool, true, false, List, [], ◌∷◌, ◌++◌}
use Rattle.nano_text.specs.Characters.{first_is, is_space}
use Rattle.nano_text.specs.Breaks.{BreaksNumber, BreaksString, is_quote, is_backslash}
use Rattle.nano_ron_tokens.specs.Token.{Token}
use Rattle.nano_ron_tokens.specs.Cut.{IsGap, starts_number, IsLexeme}

abbrev pub is_slash : ℕ → Bool
is_slash c = c == 47

abbrev pub is_star : ℕ → Bool
is_star c = c == 42

abbrev pub is_apostrophe : ℕ → Bool
is_apostrophe c = c == 39

-- a slash that begins no comment is taken
pub record BreaksSlash (text rest : List ℕ) : Type 0 where
  pub is : text ≡ 47 ∷ rest
  pub no_line : first_is is_slash rest ≡ false
  pub no_block : first_is is_star rest ≡ false

-- an apostrophe begins the text, and maybe a backslash after it, and that is what they leave
pub data Opens (text after : List ℕ) : Type 0 where
  itself : text ≡ 39 ∷ after → first_is is_backslash after ≡ false → Opens text after
  escaped : text ≡ 39 ∷ (92 ∷ after) → Opens text after

-- after that the text ends, or a character stands there with no apostrophe after it
pub data BreaksSingle (text rest : List ℕ) : Type 0 where
  ended : Opens text [] → rest ≡ [] → BreaksSingle text rest
  unclosed : (character : ℕ) → Opens text (character ∷ rest)
      → first_is is_apostrophe rest ≡ false → BreaksSingle text rest

-- no lexeme begins with the first character, whatever comes after it, and that is not taken
pub record BreaksCharacter (text rest : List ℕ) : Type 0 where
  pub first : ℕ
  pub after : List ℕ
  pub is : text ≡ first ∷ after
  pub none : (token : Token) (more left : List ℕ) → IsLexeme token (first ∷ more) left → ⊥
  pub all : rest ≡ text

-- no lexeme begins the text: a number, a string, a character between apostrophes or a comment goes
-- wrong, or its first character does
pub data BreaksLexeme (text rest : List ℕ) : Type 0 where
  number : first_is starts_number text ≡ true → BreaksNumber text rest → BreaksLexeme text rest
  quoted : first_is is_quote text ≡ true → BreaksString text rest → BreaksLexeme text rest
  single : BreaksSingle text rest → BreaksLexeme text rest
  slash : BreaksSlash text rest → BreaksLexeme text rest
  character : BreaksCharacter text rest → BreaksLexeme text rest

-- the text is a gap, and what begins with no lexeme
pub record Breaks (text rest : List ℕ) : Type 0 where
  pub gap : List ℕ
  pub body : List ℕ
  pub split : text ≡ gap ++ body
  pub skipped : IsGap gap
  pub ends : first_is is_space body ≡ false
  pub lexeme : BreaksLexeme body rest
