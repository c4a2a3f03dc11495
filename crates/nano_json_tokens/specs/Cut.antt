-- Which token is cut from a text, and what is left: white space, one lexeme, the rest.
use Rattle.std.specs.Prelude.{◌≡◌, ℕ, ◌==◌, ◌||◌, Bool, true, false, List, [], ◌++◌, codes}
use Rattle.std.specs.Prelude.{encode_utf8_all}
use Rattle.std.specs.Char.{is_ascii_uppercase, is_ascii_lowercase, is_ascii_digit}
use Rattle.std.specs.List.{AllByRecursion}
use Rattle.nano_text.specs.Characters.{first_is, is_space}
use Rattle.nano_text.specs.Number.{is_sign, IsNumber}
use Rattle.nano_text.specs.String.{IsString}
use Rattle.nano_text.specs.declared.number.Number.TheVariants.{U64, I64, Dec}
use Rattle.nano_json_tokens.specs.Token.{Token, str, u64, i64, f64, bool, null, colon, curly_open}
use Rattle.nano_json_tokens.specs.Token.{curly_close, block_open, block_close, comma, end, bof}
use Rattle.nano_grammar.specs.Codec.{Grammar}

-- a character of a word: a letter or `_`
abbrev pub is_word : ℕ → Bool
is_word c = (is_ascii_uppercase c || is_ascii_lowercase c) || (c == 95)

-- a number starts at a sign or a digit
abbrev pub starts_number : ℕ → Bool
starts_number c = is_sign c || is_ascii_digit c

-- the text begins with the punctuator that is the token
abbrev pub IsPunctuator : Token → List ℕ → List ℕ → Type 0
IsPunctuator colon text rest = text ≡ codes ":" ++ rest
IsPunctuator comma text rest = text ≡ codes "," ++ rest
IsPunctuator block_open text rest = text ≡ codes "[" ++ rest
IsPunctuator block_close text rest = text ≡ codes "]" ++ rest
IsPunctuator curly_open text rest = text ≡ codes "{" ++ rest
IsPunctuator curly_close text rest = text ≡ codes "}" ++ rest
IsPunctuator _ text rest = ⊥

-- the text begins with this word, and no further character of a word follows
abbrev pub BeginsWithWord : List ℕ → List ℕ → List ℕ → Type 0
BeginsWithWord word text rest = (text ≡ word ++ rest) × (first_is is_word rest ≡ false)

-- the text begins with the word that is the token
abbrev pub IsWord : Token → List ℕ → List ℕ → Type 0
IsWord (bool true) text rest = BeginsWithWord (codes "true") text rest
IsWord (bool false) text rest = BeginsWithWord (codes "false") text rest
IsWord null text rest = BeginsWithWord (codes "null") text rest
IsWord _ text rest = ⊥

-- the text begins with a number run that is the token
abbrev pub IsRunOf : Token → List ℕ → List ℕ → Type 0
IsRunOf (u64 n) text rest = (run : List ℕ) × IsNumber text (U64 n) run rest
IsRunOf (i64 z) text rest = (run : List ℕ) × IsNumber text (I64 z) run rest
IsRunOf (f64 run) text rest = IsNumber text Dec run rest
IsRunOf _ text rest = ⊥

-- the text begins with a string that is the token
abbrev pub IsQuoted : Token → List ℕ → List ℕ → Type 0
IsQuoted (str bytes) text rest = (characters : List ℕ)
    × IsString text characters rest × (bytes ≡ encode_utf8_all characters)
IsQuoted _ text rest = ⊥

-- the text holds nothing, and the token is the end
abbrev pub IsEnd : Token → List ℕ → List ℕ → Type 0
IsEnd end text rest = (text ≡ []) × (rest ≡ [])
IsEnd _ text rest = ⊥

-- the text begins with a lexeme of the token, and the rest follows it
pub data IsLexeme (token : Token) (text rest : List ℕ) : Type 0 where
  punctuator : IsPunctuator token text rest → IsLexeme token text rest
  word : IsWord token text rest → IsLexeme token text rest
  number : first_is starts_number text ≡ true → IsRunOf token text rest → IsLexeme token text rest
  quoted : IsQuoted token text rest → IsLexeme token text rest
  nothing : IsEnd token text rest → IsLexeme token text rest

-- the text is white space, a lexeme of the token, and the rest
pub record Cut (text : List ℕ) (token : Token) (rest : List ℕ) : Type 0 where
  pub space : List ℕ
  pub body : List ℕ
  pub split : text ≡ space ++ body
  pub skipped : AllByRecursion (λ c. is_space c ≡ true) space
  pub lexeme : IsLexeme token body rest

-- ==== how a text is cut

abbrev pub AllSpace : List ℕ → Type 0
AllSpace = AllByRecursion (λ c. is_space c ≡ true)

-- ---- what may begin a value

-- no comma, colon, closing bracket, `Bof` or end
abbrev pub MayBegin : Token → Type 0
MayBegin comma = ⊥
MayBegin colon = ⊥
MayBegin curly_close = ⊥
MayBegin block_close = ⊥
MayBegin bof = ⊥
MayBegin end = ⊥
MayBegin _ = Unit {0}

abbrev pub json_grammar : Grammar Token
json_grammar = record { may_begin = MayBegin; none = null; none_begins = tt }
