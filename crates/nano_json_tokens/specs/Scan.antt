-- The code's own tests of characters and tokens, for the contracts of private functions.
use Rattle.std.specs.Prelude.{◌≡◌, ◌≢◌, ◌==◌, ◌<◌, ℕ, Bool, true, false, List, length, codes}
use Rattle.std.specs.Prelude.{Option, Some, None, bytes_eq, if◌then◌else◌, Result, MatchResult}
use Rattle.std.specs.Prelude.{string_capacity, ◌⊎◌, [], ◌∷◌, ◌≤◌, ◌≤ℤ◌, ℤ}
use Rattle.std.specs.declared.str.Chars.{Chars}
use Rattle.nano_text.specs.Place.{remaining}
use Rattle.nano_text.specs.Characters.{prefix, following}
use Rattle.nano_grammar.specs.Outcomes.{NothingCut, TookNext, IsValueError as IsValueErrorOf}
use Rattle.nano_grammar.specs.Outcomes.{HoldsNul, end_message}
use Rattle.nano_json_tokens.specs.declared.scan.Rejection.{Rejection}
use Rattle.nano_json_tokens.specs.declared.scan.Rejection.TheVariants.{Memory}
use Rattle.nano_json_tokens.specs.declared.state.DeJsonState.{DeJsonState}
use Rattle.nano_text.specs.Characters.{is_space}
use Rattle.nano_json_tokens.specs.Cut.{is_word, IsLexeme}
use Rattle.nano_json_tokens.specs.Outcomes.{Outgrows, Moved, position, report, Says, Takes}
use Rattle.nano_json_tokens.specs.State.{KeepsOtherBuffers, pending}
use Rattle.nano_json_tokens.specs.Token.{Token, str, u64, i64, f64, bool, null, colon, curly_open}
use Rattle.nano_json_tokens.specs.Token.{curly_close, block_open, block_close, comma, end, integer_of}
use Rattle.nano_json_tokens.specs.declared.error.DeJsonErr.{DeJsonErr}
use Rattle.nano_text.specs.String.{IsPlainString}

-- the token that a word is
abbrev pub word_token : List ℕ → Option Token
word_token w =
    if bytes_eq w (codes "true") then Some (bool true)
    else if bytes_eq w (codes "false") then Some (bool false)
    else if bytes_eq w (codes "null") then Some null
    else None

module _ (shape : List ℕ → Token → List ℕ → Type 0) (breaks : List ℕ → List ℕ → Type 0)
    (old : DeJsonState) (before : Chars) (new : DeJsonState) (after : Chars) where
  -- no token of this shape stands here, and the state is where the text breaks; or if one does, it
  -- outgrows its buffer
  pub record NotScanned (r : Rejection) : Type 0 where
    pub rejected : r ≢ Memory → NothingCut shape (remaining old.cur before)
    pub broken : r ≢ Memory → breaks (remaining old.cur before) (remaining new.cur after)
    pub capacity : r ≡ Memory → (t : Token) (rest : List ℕ) → shape (remaining old.cur before) t rest
        → Outgrows old t
    pub place : Moved old before new after

  -- a token of this shape is taken
  abbrev pub Scans : {A : Type 0} → Result A Rejection → Type 0
  Scans result = MatchResult result
      (λ _. TookNext shape (KeepsOtherBuffers old new) (position old before) (position new after))
      NotScanned

module _ (old : DeJsonState) (before : Chars) (new : DeJsonState) (after : Chars) where
  -- white space was passed, and nothing else changed
  pub record PassedSpace : Type 0 where
    pub rest : remaining new.cur after ≡ following is_space (remaining old.cur before)
    pub place : Moved old before new after
    pub tok : new.tok ≡ old.tok
    pub strbuf : new.strbuf ≡ old.strbuf
    pub numbuf : new.numbuf ≡ old.numbuf
    pub identbuf : new.identbuf ≡ old.identbuf

  -- a word was passed
  pub record PassedWord : Type 0 where
    pub rest : remaining new.cur after ≡ following is_word (remaining old.cur before)
    pub place : Moved old before new after

  -- and it has this property
  pub record FoundWord (fact : Type 0) : Type 0 where
    pub word : fact
    pub passed : PassedWord

  -- the buffer had no capacity for the word
  pub record NoCapacityForWord : Type 0 where
    pub full : string_capacity old.identbuf < length (prefix is_word (remaining old.cur before))
    pub place : Moved old before new after

  -- the word is no token, or the buffer had no capacity for it
  pub record NotWord (r : Rejection) : Type 0 where
    pub rejected : r ≢ Memory → word_token (prefix is_word (remaining old.cur before)) ≡ None
    pub rest : r ≢ Memory → remaining new.cur after ≡ following is_word (remaining old.cur before)
    pub capacity : r ≡ Memory
        → string_capacity old.identbuf < length (prefix is_word (remaining old.cur before))
    pub place : Moved old before new after

-- the punctuator that a character is
abbrev pub punctuator_of : ℕ → Option Token
punctuator_of c =
    if c == 58 then Some colon
    else if c == 44 then Some comma
    else if c == 91 then Some block_open
    else if c == 93 then Some block_close
    else if c == 123 then Some curly_open
    else if c == 125 then Some curly_close
    else None

abbrev pub is_scalar : Token → Bool
is_scalar (str bytes) = true
is_scalar (u64 n) = true
is_scalar (i64 z) = true
is_scalar (f64 run) = true
is_scalar (bool b) = true
is_scalar null = true
is_scalar _ = false

abbrev pub is_opening : Token → Bool
is_opening curly_open = true
is_opening block_open = true
is_opening _ = false

abbrev pub is_closing : Token → Bool
is_closing curly_close = true
is_closing block_close = true
is_closing _ = false

abbrev pub is_end : Token → Bool
is_end end = true
is_end _ = false

-- ==== the characters that are still to be read

-- the input ends here
pub record IsWholeInput (s : DeJsonState) (input : List ℕ) : Type 0 where
  pub ends : pending s ≡ end
  pub no_nul : HoldsNul input → ⊥

-- another token is pending, or a NUL stands somewhere
pub record GoesOn (s : DeJsonState) (input : List ℕ) (e : DeJsonErr) : Type 0 where
  pub goes_on : (pending s ≢ end) ⊎ HoldsNul input
  pub says : Says s end_message e

-- the message is not that of a value that goes on; all else is the same
abbrev pub IsValueError : DeJsonErr → DeJsonErr → Type 0
IsValueError error result = IsValueErrorOf (report error) (report result)

-- ==== a name that stands ahead of a reader

module _ (old : DeJsonState) (before : Chars) (new : DeJsonState) (after : Chars) where
  -- the pending token and the name after it were taken, and a colon is pending
  pub record TookName (name : List ℕ) : Type 0 where
    pub colon : pending new ≡ colon
    pub taken : Takes (pending old ∷ (str name ∷ [])) old before new after
    pub place : Moved old before new after

  -- no name without escapes stands there with a colon directly after it; white space was passed
  pub record NoName : Type 0 where
    pub none : (name rest : List ℕ) → IsPlainString
        (following is_space (remaining old.cur before)) name (58 ∷ rest) → ⊥
    pub tok : new.tok ≡ old.tok
    pub space : remaining new.cur after ≡ following is_space (remaining old.cur before)
    pub place : Moved old before new after

-- ==== values that are taken with no token pending

-- a boolean alone
abbrev pub ATruth : List Token → Bool → Type 0
ATruth ts b = ts ≡ bool b ∷ []

-- a number without a sign alone, of at most that
abbrev pub AnUnsigned : ℕ → List Token → ℕ → Type 0
AnUnsigned max ts n = (ts ≡ u64 n ∷ []) × (n ≤ max)

-- a whole number alone, in that range
abbrev pub AnInteger : ℤ → ℤ → List Token → ℤ → Type 0
AnInteger min max ts z =
    (t : Token) × (ts ≡ t ∷ []) × (integer_of t ≡ Some z) × (min ≤ℤ z) × (z ≤ℤ max)

-- the text begins with a lexeme of the whole number
abbrev pub IsInteger : ℤ → List ℕ → List ℕ → Type 0
IsInteger z text rest = (t : Token) × (integer_of t ≡ Some z) × IsLexeme t text rest
