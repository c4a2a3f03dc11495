-- Enums: a tag of two bytes, which is the place of the variant, and after it the content of
-- the variant.
use Rattle.std.specs.Prelude.{◌≡◌, ℕ, zero, suc, ◌&&◌, Bool, true, refl, List, [], ◌++◌}
use Rattle.nano_value.specs.Meaning.{Meaning, IsImage}
use Rattle.nano_value.specs.Sums as sums
use Rattle.nano_value.specs.Sums.{tagged}
use Rattle.nano_bin_bytes.specs.Codec.{Encoding, Codec}
use Rattle.nano_bin_bytes.specs.BaseCodecs.{no_encoding}
use Rattle.nano_bin_bytes.specs.Scalars.{EncodesNumber, little_endian}

-- the content of a variant, by its type and the format of it
pub record Body : Type 1 where
  pub Fields : Type 0
  pub codec : Codec Fields

abbrev pub body : {A : Type 0} → Codec A → Body
body {A} codec = record { Fields = A; codec = codec }

-- the variants of an enum, in their order
pub data Variants : Type 1 where
  no_variants : Variants
  variant : Body → Variants → Variants

-- what is legal for the content of each
abbrev pub legal_bodies : Variants → sums.Variants
legal_bodies no_variants = sums.no_variants
legal_bodies (variant b others) = sums.variant b.codec.encoding.legal (legal_bodies others)

-- the content of a place that no variant has
abbrev pub no_body : Body
no_body = record {
  Fields = ⊥;
  codec = record {
    canonical = record { means = λ x. absurd x; written = λ _. []; same_written = λ x y e. refl };
    encoding = no_encoding (λ _. ⊥);
    is_decodable = true;
    reads_back = λ is x. absurd x;
  };
}

-- the content of the variant at a place
abbrev pub body_at : Variants → ℕ → Body
body_at no_variants place = no_body
body_at (variant b others) zero = b
body_at (variant b others) (suc place) = body_at others place

abbrev pub encoding_at : Variants → ℕ → Encoding
encoding_at vs place = (body_at vs place).codec.encoding

-- ---- what is encoded

-- a tag, and what the content after it means
pub record Variant : Type 0 where
  pub tag : ℕ
  pub content : Meaning

abbrev pub variant_means : Variant → Meaning
variant_means v = tagged v.tag v.content

-- the tag, and the content that it says
pub record EncodesVariant (vs : Variants) (bytes : List ℕ) (v : Variant) : Type 0 where
  pub head : List ℕ
  pub tail : List ℕ
  pub whole : bytes ≡ head ++ tail
  pub tagged : EncodesNumber 2 head v.tag
  pub content : (encoding_at vs v.tag).encodes tail v.content

-- a variant, by what it means
abbrev pub EncodesEnum : Variants → List ℕ → Meaning → Type 0
EncodesEnum vs bytes = IsImage variant_means (EncodesVariant vs bytes)

-- ---- what is written

-- a value by its tag and its content
pub record Tagged (vs : Variants) : Type 0 where
  pub tag : ℕ
  pub fields : (body_at vs tag).Fields

abbrev pub tagged_means : (vs : Variants) → Tagged vs → Meaning
tagged_means vs v = tagged v.tag ((body_at vs v.tag).codec.canonical.means v.fields)

abbrev pub written_tagged : (vs : Variants) → Tagged vs → List ℕ
written_tagged vs v = little_endian 2 v.tag ++ (body_at vs v.tag).codec.canonical.written v.fields

-- the contents of all variants are read
abbrev pub are_read : Variants → Bool
are_read no_variants = true
are_read (variant b others) = b.codec.is_decodable && are_read others
