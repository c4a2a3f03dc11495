-- What a value is that is read from the tokens of another one.
use Rattle.std.specs.Prelude.{◌≡◌, false, List, Result, MatchResult}
use Rattle.nano_value.specs.Meaning.{Meaning}
use Rattle.nano_json_tokens.specs.Token.{Token}
use Rattle.nano_json_tokens.specs.declared.error.DeJsonErr.{DeJsonErr}
use Rattle.nano_document.specs.Documents.{json_means}
use Rattle.nano_document.specs.DocumentCodecs.{json_codec}
use Rattle.nano_document.specs.declared.json.Json.{Json}

-- the tokens encode nothing else than what is read; an error says that they encode nothing, unless
-- it is out of memory
abbrev pub ReadsAll : {A : Type 0} → (List Token → Meaning → Type 0) → (A → Meaning) → List Token
    → Result A DeJsonErr → Type 0
ReadsAll encodes means ts result = MatchResult result
    (λ x. (m : Meaning) → encodes ts m → m ≡ means x)
    (λ e. e.memory ≡ false → (m : Meaning) → encodes ts m → ⊥)

-- the tokens encode a document, and are those that it is written with
pub record IsWrittenDocument (ts : List Token) (x : Json) : Type 0 where
  pub encoded : json_codec.encoding.encodes ts (json_means x)
  pub written : json_codec.canonical.tokens x ≡ ts
