-- Where no token is cut from a text: how far a reader goes there, and what is left then.
use Rattle.std.specs.Prelude.{◌≡◌, ℕ, true, false, List, ◌∷◌, ◌++◌}
use Rattle.std.specs.List.{AllByRecursion}
use Rattle.nano_text.specs.Characters.{first_is, is_space}
use Rattle.nano_text.specs.Breaks.{BreaksNumber, BreaksString, is_quote}
use Rattle.nano_json_tokens.specs.Token.{Token}
use Rattle.nano_json_tokens.specs.Cut.{is_word, starts_number, BeginsWithWord, IsWord, IsLexeme}

-- the text begins with a word, as long as it goes, that is no token, and that is the rest
pub record BreaksWord (text rest : List ℕ) : Type 0 where
  pub word : List ℕ
  pub letters : AllByRecursion (λ c. is_word c ≡ true) word
  pub is : BeginsWithWord word text rest
  pub none : (token : Token) → IsWord token text rest → ⊥

-- no lexeme begins with the first character, whatever comes after it, nor is it of a word, and that
-- is not taken
pub record BreaksCharacter (text rest : List ℕ) : Type 0 where
  pub first : ℕ
  pub after : List ℕ
  pub is : text ≡ first ∷ after
  pub none : (token : Token) (more left : List ℕ) → IsLexeme token (first ∷ more) left → ⊥
  pub no_word : is_word first ≡ false
  pub all : rest ≡ text

-- no lexeme begins the text: a number, a string or a word goes wrong, or its first character does
pub data BreaksLexeme (text rest : List ℕ) : Type 0 where
  number : first_is starts_number text ≡ true → BreaksNumber text rest → BreaksLexeme text rest
  quoted : first_is is_quote text ≡ true → BreaksString text rest → BreaksLexeme text rest
  word : first_is is_word text ≡ true → BreaksWord text rest → BreaksLexeme text rest
  character : BreaksCharacter text rest → BreaksLexeme text rest

-- the text is white space, and what begins with no lexeme
pub record Breaks (text rest : List ℕ) : Type 0 where
  pub space : List ℕ
  pub body : List ℕ
  pub split : text ≡ space ++ body
  pub skipped : AllByRecursion (λ c. is_space c ≡ true) space
  pub ends : first_is is_space body ≡ false
  pub lexeme : BreaksLexeme body rest
