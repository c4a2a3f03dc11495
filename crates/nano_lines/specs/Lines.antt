-- Lines in a list of bytes, and what they hold.
use Rattle.std.specs.Prelude.{◌≡◌, ◌≢◌, ◌⊎◌, ℕ, List, [], ◌∷◌, ◌++◌}
use Rattle.std.specs.List.{AllByRecursion}
use Rattle.std.specs.Str.{IsUtf8}
use Rattle.nano_text.specs.Characters.{line_feed}
use Rattle.nano_value.specs.Meaning.{Meaning}
use Rattle.nano_grammar.specs.Outcomes.{WholeDecodesTo}
use Rattle.nano_json_tokens.specs.Cut.{Cut, AllSpace}
use Rattle.nano_json_tokens.specs.Token.{Token, end}

-- no line feed stands in the bytes
abbrev pub HasNoFeed : List ℕ → Type 0
HasNoFeed = AllByRecursion (λ b. b ≢ line_feed)

-- white space alone
abbrev pub IsBlank : List ℕ → Type 0
IsBlank = AllSpace

-- the last line of the bytes, which has no line feed
pub record IsLastLine (bytes line rest : List ℕ) : Type 0 where
  pub whole : bytes ≡ line
  pub some : line ≢ []
  pub nothing : rest ≡ []

-- the bytes begin with a line, and the rest comes after its line feed
pub record BeginsWithLine (bytes line rest : List ℕ) : Type 0 where
  pub one_line : HasNoFeed line
  pub ends : (bytes ≡ line ++ line_feed ∷ rest) ⊎ IsLastLine bytes line rest

-- the bytes begin with these lines, one after the other, and the rest comes after them
abbrev pub BeginsWithLines : List (List ℕ) → List ℕ → List ℕ → Type 0
BeginsWithLines [] bytes rest = bytes ≡ rest
BeginsWithLines (line ∷ lines) bytes rest = (middle : List ℕ) × BeginsWithLine bytes line middle
    × BeginsWithLines lines middle rest

-- a line is the JSON of a value
pub record HoldsValue (encodes : List Token → Meaning → Type 0) (line : List ℕ) (m : Meaning)
    : Type 0 where
  pub utf8 : IsUtf8 line
  pub decodes : WholeDecodesTo Cut encodes end line m
