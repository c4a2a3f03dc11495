-- The tokens. A token carries its text as a `String` does, in UTF-8.
use Rattle.std.specs.Prelude.{ℕ, ℤ, List, Bool, ◌≡◌, false, [], ◌∷◌, if◌then◌else◌, true, codes}
use Rattle.std.specs.Prelude.{bytes_eq}
use Rattle.nano_toml.specs.Characters.{starts_word, is_in_word, Each}

pub data Token : Type 0 where
  ident : List ℕ → Token
  string : List ℕ → Token
  unsigned : ℕ → Token
  signed : ℤ → Token
  decimal : List ℕ → Token
  boolean : Bool → Token
  -- of these two, true is a minus sign
  nan : Bool → Token
  infinity : Bool → Token
  date : List ℕ → Token
  equals : Token
  open_bracket : Token
  close_bracket : Token
  comma : Token

-- ==== spans

abbrev pub prefix : (ℕ → Bool) → List ℕ → List ℕ
prefix p [] = []
prefix p (c ∷ cs) = if p c then (c ∷ prefix p cs) else []

abbrev pub following : (ℕ → Bool) → List ℕ → List ℕ
following p [] = []
following p (c ∷ cs) = if p c then following p cs else (c ∷ cs)

-- the text has a first character, and it passes
abbrev pub begins : (ℕ → Bool) → List ℕ → Bool
begins p [] = false
begins p (c ∷ cs) = p c

-- what calls of a test answer is what p says
abbrev pub IsTest : (ℕ → Bool → Type 0) → (ℕ → Bool) → Type 0
IsTest post p = (c : ℕ) (r : Bool) → post c r → r ≡ p c

-- ==== words: a letter or `_`, then letters, `_`, `-` and `.`, as many as there are

abbrev pub IsWord : List ℕ → Type 0
IsWord [] = ⊥
IsWord (c ∷ cs) = (starts_word c ≡ true) × Each is_in_word cs

-- what a word is: its characters are ASCII, and so are its text
abbrev pub word_token : List ℕ → Token
word_token word =
    if bytes_eq word (codes "true") then boolean true
    else if bytes_eq word (codes "false") then boolean false
    else if bytes_eq word (codes "inf") then infinity false
    else if bytes_eq word (codes "nan") then nan false
    else ident word
