-- Enums from their schema: a tag of two bytes, which is the place of the variant, and its
-- content.
use Rattle.std.specs.Prelude.{◌≡◌, ◌+◌, ◌≤◌, ℕ, suc, List, ◌++◌, drop}
use Rattle.nano_value.specs.Meaning.{Meaning}
use Rattle.nano_value.specs.Sums.{tagged, count_variants}
use Rattle.nano_bin_bytes.specs.Scalars.{little_endian}
use Rattle.nano_bin_bytes.specs.declared.error.DeBinErr.{DeBinErr}
use Rattle.nano_bin_bytes.specs.declared.error.DeBinKind.TheVariants.{Own}
use Rattle.nano_bin_bytes.specs.Reading.{rejection, Decodes, RejectsWithMore, IsReport}
use Rattle.nano_bin_bytes.specs.Codec.{Codec}
use Rattle.nano_bin_bytes.specs.Variants.{Variants, variant, body, body_at, encoding_at}
use Rattle.nano_bin_bytes.specs.Variants.{legal_bodies, Tagged}
use Rattle.nano_schema.specs.declared.choices.Either.{Either}
use Rattle.nano_schema.specs.declared.choices.Either.TheVariants.{First, Later}

-- what the content of a value means
abbrev pub content_of : (vs : Variants) → Tagged vs → Meaning
content_of vs v = (body_at vs v.tag).codec.canonical.means v.fields

-- values that are the content of one of some variants: the variants, what each value means where
-- the first of them has this place, and each by its place among them and its content
pub record Chosen (A : Type 0) : Type 1 where
  pub bodies : Variants
  pub means : ℕ → A → Meaning
  pub by_tag : A → Tagged bodies
  pub meant : (from : ℕ) (x : A)
      → means from x ≡ tagged ((by_tag x).tag + from) (content_of bodies (by_tag x))

-- the tag, counted from this one on, and the content
abbrev pub written_from : ℕ → (vs : Variants) → Tagged vs → List ℕ
written_from from vs v =
    little_endian 2 (v.tag + from) ++ (body_at vs v.tag).codec.canonical.written v.fields

module _ {A : Type 0} (f : Codec A) where
  module _ {B : Type 0} (others : Chosen B) where
    abbrev pub by_next_tag : Either A B → Tagged (variant (body f) others.bodies)
    by_next_tag (First x) = record { tag = 0; fields = x }
    by_next_tag (Later y) =
        record { tag = suc (others.by_tag y).tag; fields = (others.by_tag y).fields }

-- ---- what is read

-- the tag at this place is none of the variants'
abbrev pub IsUnknownTag : ℕ → List ℕ → DeBinErr → Type 0
IsUnknownTag start bytes error = error ≡ rejection Own start 0 bytes

-- the content that this tag says is read from here to there
pub record DecodesChoice {A : Type 0} (means : ℕ → A → Meaning) (vs : Variants) (tag : ℕ)
    (bytes : List ℕ) (start : ℕ) (x : A) (end : ℕ) : Type 0 where
  pub content : Meaning
  pub meant : (from : ℕ) → means from x ≡ tagged (tag + from) content
  pub reads : Decodes (encoding_at vs tag).encodes bytes start content end

-- no content of this tag, which stands at the start, is encoded from the offset on, which is as it
-- was; a tag that no variant has is reported
pub record ReadsNoVariant (vs : Variants) (tag : ℕ) (bytes : List ℕ) (start offset end : ℕ)
    (error : DeBinErr) : Type 0 where
  pub rejects : RejectsWithMore (encoding_at vs tag).encodes (drop offset bytes) error
  pub report : start ≤ offset → IsReport bytes start error
  pub own : count_variants (legal_bodies vs) ≤ tag → IsUnknownTag start bytes error
  pub unchanged : end ≡ offset
