-- The tokens of RON, each with the text that it carries, as bytes of UTF-8.
use Rattle.std.specs.Prelude.{ℕ, ℤ, pos, Bool, ◌==◌, not, List, Option, Some, None, true, false}
use Rattle.std.specs.Prelude.{codes, bytes_eq}
use Rattle.nano_grammar.specs.Items.{ListPunctuation}

pub data Token : Type 0 where
  -- a word of any meaning but a boolean, with its characters
  ident : List ℕ → Token
  -- a string, with its characters
  str : List ℕ → Token
  u64 : ℕ → Token
  i64 : ℤ → Token
  -- a number with a point or an exponent, with its run
  f64 : List ℕ → Token
  bool : Bool → Token
  -- a character between apostrophes
  character : ℕ → Token
  colon : Token
  curly_open : Token
  curly_close : Token
  paren_open : Token
  paren_close : Token
  block_open : Token
  block_close : Token
  comma : Token
  -- before the first token
  bof : Token
  -- after the last one
  end : Token

-- the integer that a token is, if it is one
abbrev pub integer_of : Token → Option ℤ
integer_of (u64 n) = Some (pos n)
integer_of (i64 z) = Some z
integer_of _ = None

-- the boolean that a token stands for, if it does: a whole number without a minus sign stands
-- for false where it is 0, and else for true
abbrev pub truth_of : Token → Option Bool
truth_of (bool b) = Some b
truth_of (u64 n) = Some (not (n == 0))
truth_of _ = None

abbrev pub IsStr : Token → Type 0
IsStr (str bytes) = Unit {0}
IsStr _ = ⊥

abbrev pub IsIdent : Token → Type 0
IsIdent (ident name) = Unit {0}
IsIdent _ = ⊥

-- a number of any kind
abbrev pub IsNumeric : Token → Type 0
IsNumeric (u64 n) = Unit {0}
IsNumeric (i64 z) = Unit {0}
IsNumeric (f64 run) = Unit {0}
IsNumeric _ = ⊥

-- a token that is written as a word
abbrev pub IsLiteral : Token → Type 0
IsLiteral (ident name) = Unit {0}
IsLiteral (bool b) = Unit {0}
IsLiteral _ = ⊥

-- ==== the brackets and the comma of lists, as tokens and as characters

-- square brackets
abbrev pub blocks : ListPunctuation Token
blocks = record { opening = block_open; closing = block_close; comma = comma }

-- braces
abbrev pub curlies : ListPunctuation Token
curlies = record { opening = curly_open; closing = curly_close; comma = comma }

-- parentheses
abbrev pub parens : ListPunctuation Token
parens = record { opening = paren_open; closing = paren_close; comma = comma }

-- [ ] ,
abbrev pub block_punctuation : ListPunctuation ℕ
block_punctuation = record { opening = 91; closing = 93; comma = 44 }

-- { } ,
abbrev pub curly_punctuation : ListPunctuation ℕ
curly_punctuation = record { opening = 123; closing = 125; comma = 44 }

-- ( ) ,
abbrev pub paren_punctuation : ListPunctuation ℕ
paren_punctuation = record { opening = 40; closing = 41; comma = 44 }

-- ==== tests of the pending token

-- the word that stands for what is absent
abbrev pub is_none : Token → Bool
is_none (ident name) = bytes_eq name (codes "None")
is_none _ = false

abbrev pub is_block_close : Token → Bool
is_block_close block_close = true
is_block_close _ = false

abbrev pub is_curly_close : Token → Bool
is_curly_close curly_close = true
is_curly_close _ = false

abbrev pub is_paren_close : Token → Bool
is_paren_close paren_close = true
is_paren_close _ = false
