-- The first error of a text: what stands before it can begin a value, and nothing does that begins
-- with that and what stands next.
use Rattle.std.specs.Prelude.{◌≡◌, ◌≢◌, ◌⊎◌, ◌++◌, ℕ, List, [], ◌∷◌, false, Result, MatchResult}
use Rattle.nano_text.specs.Place.{remaining_text}
use Rattle.nano_grammar.specs.Faults.{Reason, wrong, uncut}
use Rattle.nano_grammar.specs.Outcomes.{Report, Position, Fails, Read, GoesWrong, end_message}
use Rattle.nano_grammar.specs.Outcomes.{WholeDecodesTo, BreaksAtOnce, TextGoesWrong, ReadsNoText, ReadsNoWhole}
use Rattle.nano_grammar.specs.Tokens.{At, TextDecodesTo}
use Rattle.nano_json_tokens.specs.Breaks.{Breaks}
use Rattle.nano_json_tokens.specs.Cut.{Cut}
use Rattle.nano_json_tokens.specs.Outcomes.{report}
use Rattle.nano_json_tokens.specs.Token.{Token, end as last}
use Rattle.nano_json_tokens.specs.declared.error.DeJsonErr.{DeJsonErr}

-- with more tokens after them, the tokens encode a value
abbrev pub CanBegin : {V : Type 0} → (List Token → V → Type 0) → List Token → Type 0
CanBegin {V} encodes ts = (more : List Token) × (value : V) × encodes (ts ++ more) value

-- the tokens can begin a value, or there are none: of at most 0 levels there is no document
abbrev pub IsBeginning : {V : Type 0} → (List Token → V → Type 0) → List Token → Type 0
IsBeginning encodes ts = (ts ≡ []) ⊎ CanBegin encodes ts

-- what stands before a fault: the tokens that were taken, and the pending one too where it is not
-- wrong itself, but no token can be cut after it
abbrev pub before_fault : {here : At Token} → Reason Cut here → List Token → List Token
before_fault wrong ts = ts
before_fault {here} (uncut none) ts = ts ++ here.token ∷ []

module _ {V : Type 0} (encodes : List Token → V → Type 0) where
  -- ---- from a pending token on

  -- the value goes wrong there, and can begin with what stands before that
  pub record GoesWrongFirst (start end : Position Token) : Type 0 where
    pub wrong : GoesWrong Cut Breaks encodes start end
    pub before : IsBeginning encodes (before_fault wrong.reason wrong.fault.tokens)

  -- a call reads a value by what it means, or finds the first fault
  abbrev pub ReadsOrFirstFault : {A : Type 0} → (A → V) → Position Token → Position Token
      → Result A DeJsonErr → Type 0
  ReadsOrFirstFault means start end result =
      MatchResult result (λ x. Read Cut encodes start end (means x))
      (λ e. Fails (GoesWrongFirst start end) start end (report e))

  -- ---- of a text

  module _ (bytes : List ℕ) where
    -- the text goes wrong where the error stands, and a value can begin with what stands before that
    pub record TextGoesWrongFirst (e : Report) : Type 0 where
      pub wrong : TextGoesWrong Cut Breaks encodes bytes e
      pub before : IsBeginning encodes (before_fault wrong.reason wrong.fault.tokens)

    -- the error is the first one of the text: no token begins it, or it goes wrong there
    abbrev pub IsFirstError : Report → Type 0
    IsFirstError e = BreaksAtOnce Cut Breaks encodes bytes e ⊎ TextGoesWrongFirst e

    -- a text goes wrong first at one place
    abbrev pub HasOneFirstError : Type 0
    HasOneFirstError = (e f : Report) → (one : TextGoesWrongFirst e) → (other : TextGoesWrongFirst f)
        → one.wrong.here ≡ other.wrong.here

    -- no value is encoded at the beginning of the text, and the error is the first one
    pub record FailsFirst (e : Report) : Type 0 where
      pub none : ReadsNoText Cut Breaks encodes bytes e
      pub first : e.memory ≡ false → IsFirstError e

    -- the whole input encodes no value. The error is the first one, unless a value decodes and more
    -- comes after it
    pub record WholeFailsFirst (e : Report) : Type 0 where
      pub none : ReadsNoWhole Cut Breaks encodes bytes last e
      pub first : e.memory ≡ false → e.message ≢ end_message → IsFirstError e

    module _ {A : Type 0} (means : A → V) where
      -- a call reads the value at the beginning of the text, or tells its first error
      abbrev pub ReadsOrFirstError : Result A DeJsonErr → Type 0
      ReadsOrFirstError result = MatchResult result
          (λ x. TextDecodesTo Cut encodes (remaining_text bytes) (means x))
          (λ e. FailsFirst (report e))

      -- a call reads the value that is the whole input, or tells its first error
      abbrev pub WholeOrFirstError : Result A DeJsonErr → Type 0
      WholeOrFirstError result = MatchResult result
          (λ x. WholeDecodesTo Cut encodes last bytes (means x)) (λ e. WholeFailsFirst (report e))
