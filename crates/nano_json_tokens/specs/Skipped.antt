-- A skipped field: one token of a value, or a whole bracket.
use Rattle.std.specs.Prelude.{◌≡◌, ◌≢◌, ◌⊎◌, ℕ, List, [], ◌∷◌, true, Result, MatchResult}
use Rattle.std.specs.declared.str.Chars.{Chars}
use Rattle.nano_json_tokens.specs.Token.{Token, str, u64, i64, f64, bool, null, curly_open}
use Rattle.nano_json_tokens.specs.Token.{curly_close, block_open, block_close, end}
use Rattle.nano_text.specs.Place.{remaining}
use Rattle.nano_grammar.specs.Brackets.{IsBracketed as IsBracketedBy, Brackets as BracketsBy}
use Rattle.nano_grammar.specs.Outcomes.{Took, RejectsToken}
use Rattle.nano_json_tokens.specs.declared.error.DeJsonErr.{DeJsonErr}
use Rattle.nano_json_tokens.specs.declared.scan.Rejection.{Rejection}
use Rattle.nano_json_tokens.specs.declared.scan.Rejection.TheVariants.{Memory}
use Rattle.nano_json_tokens.specs.declared.state.DeJsonState.{DeJsonState}
use Rattle.nano_json_tokens.specs.Cut.{Cut}
use Rattle.nano_json_tokens.specs.Outcomes.{report, position, Keeps, Moved, GoesWrong, NoCapacity}
use Rattle.nano_json_tokens.specs.Scan.{is_scalar}
use Rattle.nano_json_tokens.specs.State.{ended, pending, KeepsOtherBuffers}

-- how many opening brackets a token is, square or curly
abbrev pub opens : Token → ℕ
opens curly_open = 1
opens block_open = 1
opens _ = 0

-- how many closing brackets a token is
abbrev pub closes : Token → ℕ
closes curly_close = 1
closes block_close = 1
closes _ = 0

-- a token that is a whole value
abbrev pub IsScalar : Token → Type 0
IsScalar (str bytes) = Unit {0}
IsScalar (u64 n) = Unit {0}
IsScalar (i64 z) = Unit {0}
IsScalar (f64 run) = Unit {0}
IsScalar (bool b) = Unit {0}
IsScalar null = Unit {0}
IsScalar _ = ⊥

-- tokens from an opening bracket to the one that closes it
abbrev pub IsBracketed : List Token → Type 0
IsBracketed = IsBracketedBy opens closes end

-- what a reader passes over where a field's name is unknown
abbrev pub SkippedField : List Token → Type 0
SkippedField ts = ((t : Token) × (ts ≡ t ∷ []) × IsScalar t) ⊎ IsBracketed ts

-- brackets with all between them, and a skipped field, which stand for no value
abbrev pub Brackets : List Token → Unit {0} → Type 0
Brackets = BracketsBy opens closes end

abbrev pub Skips : List Token → Unit {0} → Type 0
Skips ts value = SkippedField ts

-- a skipped field may begin with the token
abbrev pub BeginsField : Token → Type 0
BeginsField t = IsScalar t ⊎ (opens t ≡ 1)

-- ==== calls that pass over a field

module _ (old : DeJsonState) (before : Chars) (new : DeJsonState) (after : Chars) where
  -- a field is taken; what is said of the buffers is said of a field of one token
  abbrev pub TakesField : {A : Type 0} → Result A DeJsonErr → Type 0
  TakesField result = MatchResult result
      (λ _. (field : List Token) × SkippedField field
      × Took Cut (is_scalar (pending old) ≡ true → KeepsOtherBuffers old new)
      (position old before) (position new after) field)
      (λ e. RejectsToken ended (BeginsField (pending old))
      (GoesWrong Skips old before new after)
      (is_scalar (pending old) ≡ true → NoCapacity old (remaining old.cur before))
      (Keeps old before new after) (position old before) (position new after) (report e))

  -- no brackets with all between them stand here
  pub record NotBracketed (r : Rejection) : Type 0 where
    pub rejected : r ≢ Memory → GoesWrong Brackets old before new after
    pub place : Moved old before new after

  -- brackets are taken with all between them
  abbrev pub SkipsBrackets : {A : Type 0} → Result A Rejection → Type 0
  SkipsBrackets result = MatchResult result
      (λ _. (field : List Token) × IsBracketed field
      × Took Cut (Unit {0}) (position old before) (position new after) field)
      NotBracketed
