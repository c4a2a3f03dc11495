-- Alternatives that differ in their tags: the tag belongs to the content, and says the place of the
-- alternative.
use Rattle.std.specs.Prelude.{◌≡◌, ℕ, List, ◌++◌}
use Rattle.nano_value.specs.Meaning.{Meaning}
use Rattle.nano_value.specs.Sums.{tagged}
use Rattle.nano_bin_bytes.specs.Scalars.{EncodesNumber}
use Rattle.nano_bin_bytes.specs.Codec.{Codec}
use Rattle.nano_bin_levels.specs.Layers.{Layer}

-- ---- content after a tag

-- the two bytes of the tag, and the content
pub record EncodesAfter (tag : ℕ) (S : List ℕ → Meaning → Type 0) (bytes : List ℕ) (m : Meaning)
    : Type 0 where
  pub head : List ℕ
  pub tail : List ℕ
  pub whole : bytes ≡ head ++ tail
  pub tagged : EncodesNumber 2 head tag
  pub content : S tail m

-- ---- alternatives

module _ {Fields : ℕ → Type 0} (codecs : (place : ℕ) → Codec (Fields place)) where
  -- a place, and content that is legal there
  pub record LegalPlace (m : Meaning) : Type 0 where
    pub place : ℕ
    pub content : Meaning
    pub legal : (codecs place).encoding.legal content
    pub is : m ≡ tagged place content

  -- content of the alternative at a place
  pub record EncodesPlace (bytes : List ℕ) (m : Meaning) : Type 0 where
    pub place : ℕ
    pub content : Meaning
    pub encodes : (codecs place).encoding.encodes bytes content
    pub is : m ≡ tagged place content

-- the bytes begin with a tag that says this place
pub record BeginsAt (place_of : ℕ → ℕ) (place : ℕ) (bytes : List ℕ) : Type 0 where
  pub tag : ℕ
  pub head : List ℕ
  pub tail : List ℕ
  pub whole : bytes ≡ head ++ tail
  pub tagged : EncodesNumber 2 head tag
  pub is : place_of tag ≡ place

-- the encodings of each content begin with a tag that says its place
abbrev pub AreTagged : {Fields : ℕ → Type 0} → (ℕ → ℕ) → ((place : ℕ) → Codec (Fields place))
    → Type 0
AreTagged place_of codecs = (place : ℕ) (bytes : List ℕ) (m : Meaning)
    → (codecs place).encoding.encodes bytes m → BeginsAt place_of place bytes

-- the codecs of the contents, by their places, given that of the values inside
abbrev pub codecs_at : {A : Type 0} {Fields : ℕ → Type 0}
    → ((place : ℕ) → Layer A (Fields place)) → Codec A → (place : ℕ) → Codec (Fields place)
codecs_at layers f place = (layers place).codec f
