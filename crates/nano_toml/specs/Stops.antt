-- Where the reader stops at an error of the text. Contracts of private functions alone name it.
use Rattle.std.specs.Prelude.{◌≡◌, ◌≢◌, ℕ, List, [], ◌∷◌, ◌++◌, Result, IfErr}
use Rattle.nano_toml.specs.FirstError.{IsMalformed}
use Rattle.nano_toml.specs.Place.{Prefix, closed, nothing, Begins}
use Rattle.nano_toml.specs.Reading.{Next, a_token, the_end, nothing_yet, token_of, Took}
use Rattle.nano_toml.specs.Token.{Token}
use Rattle.nano_toml.specs.declared.fault.Fault.{Fault}
use Rattle.nano_toml.specs.declared.fault.Fault.TheVariants as fault

-- prefix finds nothing where this stands next
abbrev pub Fails : {A : Type 0} → (List Token → Prefix A) → Next → Type 0
Fails prefix (a_token t) = (more : List Token) → prefix (t ∷ more) ≡ nothing
Fails prefix the_end = prefix [] ≡ nothing
Fails prefix nothing_yet = Unit {0}

-- the error is what stands next in the text: no lexeme, or a token or the end
abbrev pub StandsNext : Fault → List ℕ → List ℕ → Type 0
StandsNext fault.Memory text remaining = Unit {0}
StandsNext (fault.Malformed lexeme) text remaining = IsMalformed text remaining
StandsNext (fault.Unexpected token) text remaining = Took text (token_of token) remaining
StandsNext (fault.OtherKind key) text remaining = ⊥

-- the error is that no lexeme stands next in the text
abbrev pub Breaks : Fault → List ℕ → List ℕ → Type 0
Breaks (fault.Malformed lexeme) text remaining = IsMalformed text remaining
Breaks _ text remaining = ⊥

-- the error is what stands next in the text, and prefix finds nothing where it stands
abbrev pub Rejects : {A : Type 0} → (List Token → Prefix A) → Fault → List ℕ → List ℕ → Type 0
Rejects prefix (fault.Malformed lexeme) text remaining = IsMalformed text remaining
Rejects prefix (fault.Unexpected token) text remaining =
    Took text (token_of token) remaining × Fails prefix (token_of token)
Rejects prefix _ text remaining = ⊥

-- prefix finds something in at least one token, if the tokens are right
abbrev pub CanFind : {A : Type 0} → (List Token → Prefix A) → Type 0
CanFind {A} prefix = (t : Token) × (ts : List Token) × (a : A) × (prefix (t ∷ ts) ≡ closed a [])

-- after tokens with which prefix can still find something, it is rejected what stands next
pub record Stops {A : Type 0} (prefix : List Token → Prefix A) (e : Fault) (text remaining : List ℕ)
    :
    Type 0 where
  pub tokens : List Token
  pub after : List ℕ
  pub begins : Begins tokens text after
  pub can_find : CanFind (λ ts. prefix (tokens ++ ts))
  pub rejects : Rejects (λ ts. prefix (tokens ++ ts)) e after remaining

-- where the call tells an error of the text, it stops at it
abbrev pub StopsAt :
    {A B : Type 0} → Result A Fault → (List Token → Prefix B) → List ℕ → List ℕ → Type 0
StopsAt result prefix text remaining =
    IfErr result (λ e. e ≢ fault.Memory → Stops prefix e text remaining)
