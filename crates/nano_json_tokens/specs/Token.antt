-- The tokens of JSON, each with the text that it carries, as bytes of UTF-8.
use Rattle.std.specs.Prelude.{ℕ, ℤ, pos, Bool, List, Option, Some, None, true, false}
use Rattle.nano_grammar.specs.Items.{ListPunctuation}

pub data Token : Type 0 where
  -- a string, with its characters
  str : List ℕ → Token
  -- a character: no text is cut into one
  character : ℕ → Token
  u64 : ℕ → Token
  i64 : ℤ → Token
  -- a number with a point or an exponent, with its run
  f64 : List ℕ → Token
  bool : Bool → Token
  -- a word of no meaning: no text is cut into one
  bare_ident : Token
  null : Token
  colon : Token
  curly_open : Token
  curly_close : Token
  block_open : Token
  block_close : Token
  comma : Token
  -- before the first token
  bof : Token
  -- after the last one
  end : Token

-- the integer that a token is, if it is one
abbrev pub integer_of : Token → Option ℤ
integer_of (u64 n) = Some (pos n)
integer_of (i64 z) = Some z
integer_of _ = None

abbrev pub IsStr : Token → Type 0
IsStr (str bytes) = Unit {0}
IsStr _ = ⊥

-- a number of any kind
abbrev pub IsNumeric : Token → Type 0
IsNumeric (u64 n) = Unit {0}
IsNumeric (i64 z) = Unit {0}
IsNumeric (f64 run) = Unit {0}
IsNumeric _ = ⊥

-- a token that is written as a word
abbrev pub IsLiteral : Token → Type 0
IsLiteral (bool b) = Unit {0}
IsLiteral null = Unit {0}
IsLiteral _ = ⊥

-- ==== the brackets and the comma of lists and maps, as tokens and as characters

-- square brackets
abbrev pub blocks : ListPunctuation Token
blocks = record { opening = block_open; closing = block_close; comma = comma }

-- braces
abbrev pub curlies : ListPunctuation Token
curlies = record { opening = curly_open; closing = curly_close; comma = comma }

-- [ ] ,
abbrev pub block_punctuation : ListPunctuation ℕ
block_punctuation = record { opening = 91; closing = 93; comma = 44 }

-- { } ,
abbrev pub curly_punctuation : ListPunctuation ℕ
curly_punctuation = record { opening = 123; closing = 125; comma = 44 }

-- ==== tests of the pending token

abbrev pub is_null : Token → Bool
is_null null = true
is_null _ = false

abbrev pub is_block_close : Token → Bool
is_block_close block_close = true
is_block_close _ = false

abbrev pub is_curly_close : Token → Bool
is_curly_close curly_close = true
is_curly_close _ = false
