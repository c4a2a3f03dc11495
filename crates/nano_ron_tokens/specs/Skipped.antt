-- A skipped field: one token of a value, a whole bracket, or a word with content.
use Rattle.std.specs.Prelude.{◌≡◌, ◌≢◌, ◌⊎◌, ℕ, List, [], ◌∷◌, ◌++◌, true, Result, MatchResult}
use Rattle.std.specs.declared.str.Chars.{Chars}
use Rattle.nano_text.specs.Place.{remaining}
use Rattle.nano_grammar.specs.Tokens.{Leaves}
use Rattle.nano_grammar.specs.Brackets.{IsBracketed as IsBracketedBy, Brackets as BracketsBy}
use Rattle.nano_grammar.specs.Outcomes.{Position, Took, RejectsToken, ReadsNoneAndEnds}
use Rattle.nano_grammar.specs.Outcomes.{Moved as MovedTo, GoesWrong as GoesWrongBy}
use Rattle.nano_ron_tokens.specs.Token.{Token, ident, str, u64, i64, f64, bool, character}
use Rattle.nano_ron_tokens.specs.Token.{curly_open, curly_close, paren_open, paren_close}
use Rattle.nano_ron_tokens.specs.Token.{block_open, block_close, end}
use Rattle.nano_ron_tokens.specs.declared.error.DeRonErr.{DeRonErr}
use Rattle.nano_ron_tokens.specs.declared.scan.Rejection.{Rejection}
use Rattle.nano_ron_tokens.specs.declared.scan.Rejection.TheVariants.{Memory}
use Rattle.nano_ron_tokens.specs.declared.state.DeRonState.{DeRonState}
use Rattle.nano_ron_tokens.specs.Breaks.{Breaks}
use Rattle.nano_ron_tokens.specs.Cut.{Cut}
use Rattle.nano_ron_tokens.specs.Outcomes.{report, position, Keeps, Moved, GoesWrong, Outgrows}
use Rattle.nano_ron_tokens.specs.Scan.{is_scalar}
use Rattle.nano_ron_tokens.specs.State.{at, ended, pending, KeepsOtherBuffers}

-- how many opening brackets a token is, a parenthesis, square or curly
abbrev pub opens : Token → ℕ
opens curly_open = 1
opens paren_open = 1
opens block_open = 1
opens _ = 0

-- how many closing brackets a token is
abbrev pub closes : Token → ℕ
closes curly_close = 1
closes paren_close = 1
closes block_close = 1
closes _ = 0

-- a token that is a whole value
abbrev pub IsScalar : Token → Type 0
IsScalar (ident name) = Unit {0}
IsScalar (str bytes) = Unit {0}
IsScalar (u64 n) = Unit {0}
IsScalar (i64 z) = Unit {0}
IsScalar (f64 run) = Unit {0}
IsScalar (bool b) = Unit {0}
IsScalar (character c) = Unit {0}
IsScalar _ = ⊥

-- tokens from an opening bracket to the one that closes it
abbrev pub IsBracketed : List Token → Type 0
IsBracketed = IsBracketedBy opens closes end

-- a word, and content in parentheses: brackets that open with one
pub record HasContent (ts : List Token) : Type 0 where
  pub name : List ℕ
  pub following : List Token
  pub are : ts ≡ ident name ∷ (paren_open ∷ following)
  pub content : IsBracketed (paren_open ∷ following)

-- what a reader passes over where a field's name is unknown
abbrev pub SkippedField : List Token → Type 0
SkippedField ts = ((t : Token) × (ts ≡ t ∷ []) × IsScalar t) ⊎ (IsBracketed ts ⊎ HasContent ts)

-- brackets with all between them, and a skipped field, which stand for no value
abbrev pub Brackets : List Token → Unit {0} → Type 0
Brackets = BracketsBy opens closes end

abbrev pub Skips : List Token → Unit {0} → Type 0
Skips ts value = SkippedField ts

-- a skipped field, and the token after it, which is no opening parenthesis
pub record SkippedBefore (ts : List Token) : Type 0 where
  pub field : List Token
  pub next : Token
  pub are : ts ≡ field ++ next ∷ []
  pub skipped : SkippedField field
  pub other : next ≢ paren_open

abbrev pub SkipsBefore : List Token → Unit {0} → Type 0
SkipsBefore ts value = SkippedBefore ts

-- a skipped field may begin with the token
abbrev pub BeginsField : Token → Type 0
BeginsField t = IsScalar t ⊎ (opens t ≡ 1)

-- the token after the first one begins the content of a word
abbrev pub OpensContent : Token → Token → Type 0
OpensContent (ident name) t = t ≡ paren_open
OpensContent _ t = ⊥

-- if a token is cut from the text that begins no content of the pending one, it outgrows its buffer
abbrev pub NoCapacityAfter : DeRonState → List ℕ → Type 0
NoCapacityAfter s text =
    (t : Token) (rest : List ℕ) → Cut text t rest → ¬ OpensContent (pending s) t → Outgrows s t

-- ==== calls that pass over a field

module _ (old : DeRonState) (before : Chars) (new : DeRonState) (after : Chars) where
  -- the field is taken, and no longer one stands there; what is said of the buffers is said of a
  -- field of one token
  pub record TookField (field : List Token) : Type 0 where
    pub skipped : SkippedField field
    pub took : Took Cut (field ≡ pending old ∷ [] → KeepsOtherBuffers old new)
        (position old before) (position new after) field
    pub whole : (more : List Token) → SkippedField (field ++ pending new ∷ more) → ⊥

  -- a word and an opening parenthesis stand here, and that begins no brackets
  pub record NoContent : Type 0 where
    pub name : List ℕ
    pub middle : Position Token
    pub word : Leaves Cut (ident name ∷ []) (at old before) middle.at
    pub opening : middle.at.token ≡ paren_open
    pub place : MovedTo (position old before) middle
    pub content : GoesWrongBy Cut Breaks Brackets middle (position new after)

  -- no skipped field stands here: none at all, or a word whose content goes wrong
  abbrev pub NoField : Type 0
  NoField = GoesWrong Skips old before new after ⊎ NoContent

  -- a field is taken
  abbrev pub TakesField : {A : Type 0} → Result A DeRonErr → Type 0
  TakesField result = MatchResult result (λ _. (field : List Token) × TookField field)
      (λ e. RejectsToken ended (BeginsField (pending old)) NoField
      (is_scalar (pending old) ≡ true → NoCapacityAfter old (remaining old.cur before))
      (Keeps old before new after) (position old before) (position new after) (report e))

  -- these brackets are taken with all between them
  abbrev pub TookBrackets : List Token → Type 0
  TookBrackets ts =
      IsBracketed ts × Took Cut (Unit {0}) (position old before) (position new after) ts

  -- brackets are taken with all between them; an error leaves the state at the end of the text
  abbrev pub TakesBrackets : {A : Type 0} → Result A DeRonErr → Type 0
  TakesBrackets result = MatchResult result (λ _. (ts : List Token) × TookBrackets ts)
      (λ e. ReadsNoneAndEnds Cut Breaks Brackets (position old before) (position new after) ended
      (report e))

  -- no brackets with all between them stand here
  pub record NotBracketed (r : Rejection) : Type 0 where
    pub rejected : r ≢ Memory → GoesWrong Brackets old before new after
    pub place : Moved old before new after

  -- the same, by a reason that no error was made of
  abbrev pub SkipsBrackets : {A : Type 0} → Result A Rejection → Type 0
  SkipsBrackets result =
      MatchResult result (λ _. (ts : List Token) × TookBrackets ts) NotBracketed
