-- Which token is cut from a text, and what is left: a gap, one lexeme, the rest.
use Rattle.std.specs.Prelude.{◌≡◌, ◌≢◌, ◌⊎◌, ℕ, ◌==◌, ◌||◌, Bool, true, List, [], ◌∷◌, ◌++◌, codes}
use Rattle.std.specs.Prelude.{false, encode_utf8_all}
use Rattle.std.specs.List.{AllByRecursion, flat_map}
use Rattle.std.specs.Char.{is_ascii_uppercase, is_ascii_lowercase, is_ascii_digit}
use Rattle.nano_text.specs.Characters.{line_feed, first_is, is_space}
use Rattle.nano_text.specs.Number.{is_sign, IsNumber}
use Rattle.nano_text.specs.String.{IsString}
use Rattle.nano_text.specs.declared.number.Number.TheVariants.{U64, I64, Dec}
use Rattle.nano_ron_tokens.specs.Token.{Token, ident, str, u64, i64, f64, bool, character, colon}
use Rattle.nano_ron_tokens.specs.Token.{comma, curly_open, curly_close, paren_open, paren_close}
use Rattle.nano_ron_tokens.specs.Token.{block_open, block_close, end, bof}
use Rattle.nano_grammar.specs.Codec.{Grammar}

-- ==== what stands between tokens: white space and comments

-- no line feed stands in the characters
abbrev pub IsOneLine : List ℕ → Type 0
IsOneLine = AllByRecursion (λ c. c ≢ line_feed)

-- no `*/` stands in the characters
abbrev pub HoldsNoEnd : List ℕ → Type 0
HoldsNoEnd cs = (prefix back : List ℕ) → cs ≡ prefix ++ (codes "*/" ++ back) → ⊥

-- what is skipped: a character of white space; a comment from `//` to the line feed, which is
-- skipped with it; one from `/*` to the first `*/` after it
pub data Skip : Type 0 where
  space : ℕ → Skip
  line : List ℕ → Skip
  block : List ℕ → Skip

abbrev pub IsSkip : Skip → Type 0
IsSkip (space c) = is_space c ≡ true
IsSkip (line cs) = IsOneLine cs
IsSkip (block cs) = HoldsNoEnd cs

abbrev pub skip_text : Skip → List ℕ
skip_text (space c) = c ∷ []
skip_text (line cs) = codes "//" ++ (cs ++ line_feed ∷ [])
skip_text (block cs) = codes "/*" ++ (cs ++ codes "*/")

-- any number of these
pub record IsGap (gap : List ℕ) : Type 0 where
  pub skips : List Skip
  pub good : AllByRecursion IsSkip skips
  pub is : gap ≡ flat_map skip_text skips

-- nothing is left, or a comment that has no end
abbrev pub IsUnended : List ℕ → Type 0
IsUnended text = (text ≡ [])
    ⊎ (((cs : List ℕ) × (text ≡ codes "//" ++ cs) × IsOneLine cs)
    ⊎ ((cs : List ℕ) × (text ≡ codes "/*" ++ cs) × HoldsNoEnd cs))

-- ==== which token is cut, and what is left

-- a word starts at a letter or `_`
abbrev pub starts_word : ℕ → Bool
starts_word c = (is_ascii_uppercase c || is_ascii_lowercase c) || (c == 95)

-- a character of a word: a letter, `_` or a digit
abbrev pub is_word : ℕ → Bool
is_word c = starts_word c || is_ascii_digit c

-- a number starts at a sign, a digit or a point
abbrev pub starts_number : ℕ → Bool
starts_number c = (is_sign c || is_ascii_digit c) || (c == 46)

-- the text begins with the punctuator that is the token
abbrev pub IsPunctuator : Token → List ℕ → List ℕ → Type 0
IsPunctuator colon text rest = text ≡ codes ":" ++ rest
IsPunctuator comma text rest = text ≡ codes "," ++ rest
IsPunctuator block_open text rest = text ≡ codes "[" ++ rest
IsPunctuator block_close text rest = text ≡ codes "]" ++ rest
IsPunctuator paren_open text rest = text ≡ codes "(" ++ rest
IsPunctuator paren_close text rest = text ≡ codes ")" ++ rest
IsPunctuator curly_open text rest = text ≡ codes "{" ++ rest
IsPunctuator curly_close text rest = text ≡ codes "}" ++ rest
IsPunctuator _ text rest = ⊥

-- the text begins with this word, and no further character of a word follows
abbrev pub BeginsWithWord : List ℕ → List ℕ → List ℕ → Type 0
BeginsWithWord word text rest = (text ≡ word ++ rest) × (first_is is_word rest ≡ false)

-- a word that is no boolean
pub record IsName (name : List ℕ) : Type 0 where
  pub starts : first_is starts_word name ≡ true
  pub goes_on : AllByRecursion (λ c. is_word c ≡ true) name
  pub not_true : name ≢ codes "true"
  pub not_false : name ≢ codes "false"

-- the text begins with the word that is the token
abbrev pub IsWord : Token → List ℕ → List ℕ → Type 0
IsWord (bool true) text rest = BeginsWithWord (codes "true") text rest
IsWord (bool false) text rest = BeginsWithWord (codes "false") text rest
IsWord (ident name) text rest = IsName name × BeginsWithWord name text rest
IsWord _ text rest = ⊥

-- the text begins with a number run that is the token
abbrev pub IsRunOf : Token → List ℕ → List ℕ → Type 0
IsRunOf (u64 n) text rest = (run : List ℕ) × IsNumber text (U64 n) run rest
IsRunOf (i64 z) text rest = (run : List ℕ) × IsNumber text (I64 z) run rest
IsRunOf (f64 run) text rest = IsNumber text Dec run rest
IsRunOf _ text rest = ⊥

-- the text begins with a string that is the token
abbrev pub IsQuoted : Token → List ℕ → List ℕ → Type 0
IsQuoted (str bytes) text rest = (characters : List ℕ)
    × IsString text characters rest × (bytes ≡ encode_utf8_all characters)
IsQuoted _ text rest = ⊥

-- the text begins with a character between apostrophes: itself, or after a backslash
abbrev pub IsCharacter : Token → List ℕ → List ℕ → Type 0
IsCharacter (character c) text rest = (c ≢ 0)
    × (((c ≢ 92) × (text ≡ 39 ∷ (c ∷ (39 ∷ rest)))) ⊎ (text ≡ 39 ∷ (92 ∷ (c ∷ (39 ∷ rest)))))
IsCharacter _ text rest = ⊥

-- the text holds nothing, or a comment that has no end, and the token is the end
abbrev pub IsEnd : Token → List ℕ → List ℕ → Type 0
IsEnd end text rest = IsUnended text × (rest ≡ [])
IsEnd _ text rest = ⊥

-- the text begins with a lexeme of the token, and the rest comes after it
pub data IsLexeme (token : Token) (text rest : List ℕ) : Type 0 where
  punctuator : IsPunctuator token text rest → IsLexeme token text rest
  word : IsWord token text rest → IsLexeme token text rest
  number : first_is starts_number text ≡ true → IsRunOf token text rest → IsLexeme token text rest
  quoted : IsQuoted token text rest → IsLexeme token text rest
  single : IsCharacter token text rest → IsLexeme token text rest
  nothing : IsEnd token text rest → IsLexeme token text rest

-- the text is a gap, a lexeme of the token, and the rest
pub record Cut (text : List ℕ) (token : Token) (rest : List ℕ) : Type 0 where
  pub gap : List ℕ
  pub body : List ℕ
  pub split : text ≡ gap ++ body
  pub skipped : IsGap gap
  pub lexeme : IsLexeme token body rest

-- ==== what may begin a value

-- no comma, colon, closing bracket, `Bof` or end
abbrev pub MayBegin : Token → Type 0
MayBegin comma = ⊥
MayBegin colon = ⊥
MayBegin curly_close = ⊥
MayBegin paren_close = ⊥
MayBegin block_close = ⊥
MayBegin bof = ⊥
MayBegin end = ⊥
MayBegin _ = Unit {0}

-- the word that stands for what is absent
abbrev pub none : Token
none = ident (codes "None")

abbrev pub ron_grammar : Grammar Token
ron_grammar = record { may_begin = MayBegin; none = none; none_begins = tt }
