-- The code's own tests of characters and tokens, and what its private functions pass over.
use Rattle.std.specs.Prelude.{◌≡◌, ◌≢◌, ◌⊎◌, ◌==◌, ◌<◌, ◌||◌, ℕ, Bool, true, false, List, [], ◌∷◌}
use Rattle.std.specs.Prelude.{◌++◌, length, codes, Option, Some, None, bytes_eq, if◌then◌else◌}
use Rattle.std.specs.Prelude.{Result, MatchResult, string_capacity, ◌≤◌, ◌≤ℤ◌, ℤ}
use Rattle.std.specs.declared.str.Chars.{Chars}
use Rattle.nano_text.specs.Characters.{line_feed, prefix, following, first_is}
use Rattle.nano_text.specs.Place.{remaining}
use Rattle.nano_grammar.specs.Outcomes.{NothingCut, TookNext, IsValueError as IsValueErrorOf}
use Rattle.nano_grammar.specs.Outcomes.{HoldsNul, end_message}
use Rattle.nano_ron_tokens.specs.declared.scan.Rejection.{Rejection}
use Rattle.nano_ron_tokens.specs.declared.scan.Rejection.TheVariants.{Memory}
use Rattle.nano_ron_tokens.specs.declared.state.DeRonState.{DeRonState}
use Rattle.nano_ron_tokens.specs.Breaks.{Breaks, BreaksSlash}
use Rattle.nano_ron_tokens.specs.Cut.{Cut, is_word, Skip, IsSkip, skip_text, IsGap, IsUnended}
use Rattle.nano_text.specs.Characters.{is_space}
use Rattle.nano_ron_tokens.specs.Cut.{IsOneLine, HoldsNoEnd, IsLexeme}
use Rattle.nano_ron_tokens.specs.Outcomes.{Outgrows, Moved, position, report, Says}
use Rattle.nano_ron_tokens.specs.State.{KeepsOtherBuffers, pending}
use Rattle.nano_ron_tokens.specs.Token.{Token, ident, bool, colon, curly_open, curly_close}
use Rattle.nano_ron_tokens.specs.Token.{block_open, block_close, comma, paren_open, paren_close}
use Rattle.nano_ron_tokens.specs.Token.{end, str, u64, i64, f64, character, integer_of}
use Rattle.nano_ron_tokens.specs.declared.error.DeRonErr.{DeRonErr}

-- the token that a word is
abbrev pub word_token : List ℕ → Token
word_token w =
    if bytes_eq w (codes "true") then bool true
    else if bytes_eq w (codes "false") then bool false
    else ident w

module _ (shape : List ℕ → Token → List ℕ → Type 0) (breaks : List ℕ → List ℕ → Type 0)
    (old : DeRonState) (before : Chars) (new : DeRonState) (after : Chars) where
  -- no token of this shape stands here, and the state is where the text breaks; or if one does, it
  -- outgrows its buffer
  pub record NotScanned (r : Rejection) : Type 0 where
    pub rejected : r ≢ Memory → NothingCut shape (remaining old.cur before)
    pub broken : r ≢ Memory → breaks (remaining old.cur before) (remaining new.cur after)
    pub capacity : r ≡ Memory → (t : Token) (rest : List ℕ)
        → shape (remaining old.cur before) t rest → Outgrows old t
    pub place : Moved old before new after

  -- a token of this shape is taken
  abbrev pub Scans : {A : Type 0} → Result A Rejection → Type 0
  Scans result = MatchResult result
      (λ _. TookNext shape (KeepsOtherBuffers old new) (position old before) (position new after))
      NotScanned

module _ (old : DeRonState) (before : Chars) (new : DeRonState) (after : Chars) where
  -- line and column count exactly what was passed over; the pending token and the buffers are what
  -- they were
  pub record Passed : Type 0 where
    pub place : Moved old before new after
    pub tok : new.tok ≡ old.tok
    pub strbuf : new.strbuf ≡ old.strbuf
    pub numbuf : new.numbuf ≡ old.numbuf
    pub identbuf : new.identbuf ≡ old.identbuf

  -- a word was passed
  pub record PassedWord : Type 0 where
    pub rest : remaining new.cur after ≡ following is_word (remaining old.cur before)
    pub place : Moved old before new after

  -- and it has this property
  pub record FoundWord (fact : Type 0) : Type 0 where
    pub word : fact
    pub passed : PassedWord

  -- the buffer had no capacity for the word
  pub record NoCapacityForWord : Type 0 where
    pub full : string_capacity old.identbuf < length (prefix is_word (remaining old.cur before))
    pub place : Moved old before new after

-- the punctuator that a character is
abbrev pub punctuator_of : ℕ → Option Token
punctuator_of c =
    if c == 58 then Some colon
    else if c == 44 then Some comma
    else if c == 91 then Some block_open
    else if c == 93 then Some block_close
    else if c == 40 then Some paren_open
    else if c == 41 then Some paren_close
    else if c == 123 then Some curly_open
    else if c == 125 then Some curly_close
    else None

-- ---- tests of a token

abbrev pub is_paren_open : Token → Bool
is_paren_open paren_open = true
is_paren_open _ = false

abbrev pub is_scalar : Token → Bool
is_scalar (ident name) = true
is_scalar (str bytes) = true
is_scalar (u64 n) = true
is_scalar (i64 z) = true
is_scalar (f64 run) = true
is_scalar (bool b) = true
is_scalar (character c) = true
is_scalar _ = false

abbrev pub is_opening : Token → Bool
is_opening curly_open = true
is_opening paren_open = true
is_opening block_open = true
is_opening _ = false

abbrev pub is_closing : Token → Bool
is_closing curly_close = true
is_closing paren_close = true
is_closing block_close = true
is_closing _ = false

abbrev pub is_end : Token → Bool
is_end end = true
is_end _ = false

-- ---- what is passed over

-- a gap begins here, or a comment that has no end
abbrev pub starts_gap : ℕ → Bool
starts_gap c = is_space c || (c == 47)

-- the text does not begin with what is skipped
abbrev pub IsStop : List ℕ → Type 0
IsStop body = (s : Skip) (more : List ℕ) → IsSkip s → body ≡ skip_text s ++ more → ⊥

-- the line and its line feed stand before the rest; or it has none, and nothing is left
abbrev pub AfterLine : List ℕ → List ℕ → Type 0
AfterLine text rest = ((cs : List ℕ) × (text ≡ cs ++ line_feed ∷ rest) × IsOneLine cs)
    ⊎ (IsOneLine text × (rest ≡ []))

-- the first `*/` stands before the rest; or there is none, and nothing is left
abbrev pub AfterBlock : List ℕ → List ℕ → Type 0
AfterBlock text rest = ((cs : List ℕ) × (text ≡ cs ++ 42 ∷ (47 ∷ rest)) × HoldsNoEnd cs)
    ⊎ (HoldsNoEnd text × (rest ≡ []))

-- a comment stands before the rest; or one that has no end, and nothing is left
abbrev pub AfterComment : List ℕ → List ℕ → Type 0
AfterComment text rest = ((s : Skip) × (text ≡ skip_text s ++ rest) × IsSkip s)
    ⊎ (IsUnended text × (rest ≡ []))

-- no comment begins here, also none that has no end
abbrev pub BeginsNoComment : List ℕ → Type 0
BeginsNoComment text = IsStop text × (IsUnended text → ⊥)

-- a gap stands before the rest; or one and a comment that has no end, and nothing is left
pub record AfterGap (text rest : List ℕ) : Type 0 where
  pub gap : List ℕ
  pub body : List ℕ
  pub split : text ≡ gap ++ body
  pub skipped : IsGap gap
  pub left : (body ≡ rest) ⊎ (IsUnended body × (rest ≡ []))

-- a comment is passed over, or none begins here
abbrev pub SkipsComment : List ℕ → List ℕ → Bool → Type 0
SkipsComment text rest true = AfterComment text rest
SkipsComment text rest false = BeginsNoComment text × BreaksSlash text rest

-- white space and comments are passed over, and no more follow; or a `/` begins no comment, and so
-- nothing is cut, and the text breaks there
abbrev pub SkipsGaps : List ℕ → List ℕ → Bool → Type 0
SkipsGaps text rest true = AfterGap text rest × (first_is starts_gap rest ≡ false)
SkipsGaps text rest false = NothingCut Cut text × Breaks text rest

-- ==== the characters that are still to be read

-- the input ends here
pub record IsWholeInput (s : DeRonState) (input : List ℕ) : Type 0 where
  pub ends : pending s ≡ end
  pub no_nul : HoldsNul input → ⊥

-- another token is pending, or a NUL stands somewhere
pub record GoesOn (s : DeRonState) (input : List ℕ) (e : DeRonErr) : Type 0 where
  pub goes_on : (pending s ≢ end) ⊎ HoldsNul input
  pub says : Says s end_message e

-- the message is not that of a value that goes on; all else is the same
abbrev pub IsValueError : DeRonErr → DeRonErr → Type 0
IsValueError error result = IsValueErrorOf (report error) (report result)

-- ==== values that are taken with no token pending

-- a number without a sign alone, of at most that
abbrev pub AnUnsigned : ℕ → List Token → ℕ → Type 0
AnUnsigned max ts n = (ts ≡ u64 n ∷ []) × (n ≤ max)

-- a whole number alone, in that range
abbrev pub AnInteger : ℤ → ℤ → List Token → ℤ → Type 0
AnInteger min max ts z =
    (t : Token) × (ts ≡ t ∷ []) × (integer_of t ≡ Some z) × (min ≤ℤ z) × (z ≤ℤ max)

-- the text begins with a lexeme of the whole number
abbrev pub IsInteger : ℤ → List ℕ → List ℕ → Type 0
IsInteger z text rest = (t : Token) × (integer_of t ≡ Some z) × IsLexeme t text rest
