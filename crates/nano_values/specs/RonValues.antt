-- What a call for the next of the values of a text comes to.
use Rattle.std.specs.Prelude.{◌≡◌, ℕ, List, [], Option, None, MatchOption}
use Rattle.nano_value.specs.Meaning.{Meaning}
use Rattle.nano_grammar.specs.Outcomes.{Position, HoldsNul, Stops, given_up}
use Rattle.nano_values.specs.Values.{IsFirst, IsOver, TakesValue, TakesNone}
use Rattle.nano_values.specs.Values.{TakesFirst as TakesFirstBy}
use Rattle.nano_ron_tokens.specs.Breaks.{Breaks}
use Rattle.nano_ron_tokens.specs.Cut.{Cut}
use Rattle.nano_ron_tokens.specs.Outcomes.{position, report, IsMadeAt, Uncut, NoCapacity}
use Rattle.nano_ron_tokens.specs.State.{ended, pending}
use Rattle.nano_ron_tokens.specs.Token.{Token, bof, end}
use Rattle.nano_ron_tokens.specs.declared.error.DeRonErr.{DeRonErr}
use Rattle.nano_text.specs.Place.{remaining}
use Rattle.nano_values.specs.declared.ron.Values.{Values}

-- where they stand: the pending token, the text after it, line and column
abbrev pub standing : Values → Position Token
standing values = position values.state values.input

-- nothing was taken yet of the text
pub record IsNew (text : List ℕ) (values : Values) : Type 0 where
  pub first : IsFirst bof text (standing values)
  pub same : values.text.now ≡ text

-- nothing is left
pub record HasEnded (values : Values) : Type 0 where
  pub at_end : pending values.state ≡ end
  pub nothing : values.text.now ≡ []

module _ (encodes : List Token → Meaning → Type 0) (old new : Values) where
  -- the next value is taken, or there is none since nothing is left
  pub record Gives {A : Type 0} (means : A → Meaning) (found : Option A) : Type 0 where
    pub is : MatchOption found (IsOver Cut bof end old.text.now (standing old) (standing new))
        (λ x. TakesValue Cut encodes bof (standing old) (standing new) (means x))
    pub same : new.text ≡ old.text

  -- no value is encoded there, and nothing is left
  pub record Rejects (e : DeRonErr) : Type 0 where
    pub none : TakesNone Cut Breaks encodes bof end ended old.text.now (standing old) (standing new)
        (report e)
    pub nothing : new.text.now ≡ []

-- ==== the steps of a call

module _ (old new : Values) where
  -- the first token is pending
  abbrev pub TakesFirst : Type 0
  TakesFirst = TakesFirstBy Cut bof (standing old) (standing new)

  -- none can be cut
  pub record CutsNone (e : DeRonErr) : Type 0 where
    pub first : pending old.state ≡ bof
    pub stops : Stops ended (Uncut old.state old.input new.state new.input)
        (NoCapacity old.state (remaining old.state.cur old.input)) (standing old) (standing new)
        (report e)

  -- the end is pending, and no NUL stands in the text
  pub record Ends {A : Type 0} (found : Option A) : Type 0 where
    pub none : found ≡ None
    pub same : new ≡ old
    pub no_nul : HoldsNul old.text.now → ⊥

  -- a NUL stands in the text, and nothing is left
  pub record FindsNul (e : DeRonErr) : Type 0 where
    pub nul : HoldsNul old.text.now
    pub made : IsMadeAt old.state e
    pub given_up : standing new ≡ given_up ended (standing old)
    pub nothing : new.text.now ≡ []
