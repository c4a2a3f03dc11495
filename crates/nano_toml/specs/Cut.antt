-- How a text is cut into tokens. A text is a list of characters, none of which is NUL.
use Rattle.std.specs.Prelude.{◌≡◌, ℕ, ◌==◌, ◌||◌, Bool, true, List, [], ◌∷◌, ◌++◌, flat_map, Option}
use Rattle.std.specs.Prelude.{Some, None, IfSome, false, encode_utf8_all, if◌then◌else◌}
use Rattle.std.specs.List.{AllByRecursion}
use Rattle.nano_toml.specs.Characters.{is_space, is_line_feed, NoneOf, is_in_word}
use Rattle.nano_toml.specs.Token.{begins, Token, string, equals, open_bracket, close_bracket, comma}
use Rattle.nano_toml.specs.Token.{IsWord, word_token}
use Rattle.nano_toml.specs.Quoted.{IsString}
use Rattle.nano_toml.specs.Number.{IsNumber}

-- ==== what is skipped

pub data Gap : Type 0 where
  space : ℕ → Gap
  -- `#`, these characters and a line feed
  comment : List ℕ → Gap

abbrev pub gap_text : Gap → List ℕ
gap_text (space c) = c ∷ []
gap_text (comment body) = 35 ∷ (body ++ 10 ∷ [])

abbrev pub IsGap : Gap → Type 0
IsGap (space c) = is_space c ≡ true
IsGap (comment body) = NoneOf is_line_feed body

-- the character begins a gap: white space, or `#`
abbrev pub begins_gap : ℕ → Bool
begins_gap c = is_space c || (c == 35)

abbrev pub AreGaps : List Gap → Type 0
AreGaps gaps = AllByRecursion IsGap gaps

abbrev pub gaps_text : List Gap → List ℕ
gaps_text gaps = flat_map gap_text gaps

-- a last comment, which the end of the text ends
abbrev pub last_comment_text : Option (List ℕ) → List ℕ
last_comment_text None = []
last_comment_text (Some body) = 35 ∷ body

abbrev pub IsLastComment : Option (List ℕ) → Type 0
IsLastComment last = IfSome last (λ body. NoneOf is_line_feed body)

-- ==== how a text is cut

-- the tokens of one character
abbrev pub punctuator_token : ℕ → Option Token
punctuator_token c =
    if c == 44 then Some comma
    else if c == 91 then Some open_bracket
    else if c == 93 then Some close_bracket
    else if c == 61 then Some equals
    else None

-- the text begins with one lexeme of the token, and rest comes after it
pub data Lexeme (text : List ℕ) (token : Token) (rest : List ℕ) : Type 0 where
  a_punctuator : (c : ℕ) → punctuator_token c ≡ Some token → text ≡ c ∷ rest
      → Lexeme text token rest
  a_word : (word : List ℕ) → IsWord word → begins is_in_word rest ≡ false → text ≡ word ++ rest
      → token ≡ word_token word → Lexeme text token rest
  a_string : (chars : List ℕ) → IsString text chars rest → token ≡ string (encode_utf8_all chars)
      → Lexeme text token rest
  a_number : IsNumber text token rest → Lexeme text token rest

-- the token is split off the text: after what is skipped comes one lexeme, and then rest
pub record Cut (text : List ℕ) (token : Token) (rest : List ℕ) : Type 0 where
  pub gaps : List Gap
  pub from : List ℕ
  pub are_gaps : AreGaps gaps
  pub lexeme : Lexeme from token rest
  pub split : text ≡ gaps_text gaps ++ from

-- nothing but what is skipped is left, and maybe a comment that the end of the text ends
pub record CutEnd (text : List ℕ) : Type 0 where
  pub gaps : List Gap
  pub last : Option (List ℕ)
  pub are_gaps : AreGaps gaps
  pub is_last : IsLastComment last
  pub split : text ≡ gaps_text gaps ++ last_comment_text last

-- neither a token nor the end is cut from the text
abbrev pub CutsNothing : List ℕ → Type 0
CutsNothing text = ((token : Token) (rest : List ℕ) → Cut text token rest → ⊥) × (CutEnd text → ⊥)

-- the tokens of a text, all of them, up to its end
abbrev pub Tokens : List ℕ → List Token → Type 0
Tokens text [] = CutEnd text
Tokens text (token ∷ more) = (rest : List ℕ) × Cut text token rest × Tokens rest more

-- a text is cut in one way: into one token and one rest, or to its end
abbrev pub IsCutInOneWay : List ℕ → Type 0
IsCutInOneWay text =
    ((one two : Token) (rest left : List ℕ) → Cut text one rest → Cut text two left
    → (one ≡ two) × (rest ≡ left))
    × ((token : Token) (rest : List ℕ) → Cut text token rest → CutEnd text → ⊥)
