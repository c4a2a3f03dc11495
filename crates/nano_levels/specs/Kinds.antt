-- Alternatives that differ in their first token: the kind of the token is the place of the
-- alternative. The token belongs to the content.
use Rattle.std.specs.Prelude.{◌≡◌, ℕ, List, [], ◌∷◌}
use Rattle.nano_value.specs.Meaning.{Meaning}
use Rattle.nano_meaning.specs.Sums.{tagged}
use Rattle.nano_grammar.specs.Tokens.{Cutting}
use Rattle.nano_grammar.specs.Codec.{Codec}
use Rattle.nano_grammar.specs.Codec.{Grammar}
use Rattle.nano_levels.specs.Layers.{Layer}

-- the kind of the first token
abbrev pub kind_of : {T : Type 0} → (T → ℕ) → List T → ℕ
kind_of kind [] = 0
kind_of kind (t ∷ ts) = kind t

-- a value by its alternative and its content
pub record Tagged (Fields : ℕ → Type 0) : Type 0 where
  pub tag : ℕ
  pub fields : Fields tag

module _ {T : Type 0} {c : Cutting T} {g : Grammar T} (kind : T → ℕ) {Fields : ℕ → Type 0}
    (codecs : (place : ℕ) → Codec c g (Fields place)) where
  -- a place, and content that is legal there
  pub record LegalKind (m : Meaning) : Type 0 where
    pub place : ℕ
    pub content : Meaning
    pub legal : (codecs place).encoding.legal content
    pub is : m ≡ tagged place content

  -- content of the alternative that the first token says
  pub record EncodesKind (ts : List T) (m : Meaning) : Type 0 where
    pub content : Meaning
    pub encodes : (codecs (kind_of kind ts)).encoding.encodes ts content
    pub is : m ≡ tagged (kind_of kind ts) content

-- the codecs of the contents, by their places, given that of the values inside
abbrev pub codecs_at : {T : Type 0} {c : Cutting T} {g : Grammar T} {A : Type 0}
    {Fields : ℕ → Type 0} → ((place : ℕ) → Layer c g A (Fields place)) → Codec c g A
    → (place : ℕ) → Codec c g (Fields place)
codecs_at layers f place = (layers place).codec f

-- the tokens of a content are of the kind of its place
abbrev pub AreKinds : {T : Type 0} {c : Cutting T} {g : Grammar T} {A : Type 0}
    {Fields : ℕ → Type 0} → (T → ℕ) → ((place : ℕ) → Layer c g A (Fields place)) → Type 1
AreKinds {T} {c} {g} {A} kind layers = (f : Codec c g A) (place : ℕ) (ts : List T) (m : Meaning)
    → (codecs_at layers f place).encoding.encodes ts m → kind_of kind ts ≡ place
