-- The format of an own enum as bytes.
use Rattle.std.specs.Prelude.{◌≡◌, ◌≤◌, ℕ, List, true}
use Rattle.std.proofs.Common.{leb, sym}
use Rattle.std.proofs.lemmas.Bool.{leb-true}
use Rattle.nano_value.specs.Sums.{count_variants}
use Rattle.nano_bin_bytes.specs.Scalars.{EncodesNumber}
use Rattle.nano_bin_bytes.specs.Reading.{Decodes}
use Rattle.nano_bin_bytes.specs.Codec.{Codec}
use Rattle.nano_bin_bytes.specs.BaseCodecs.{codec_as}
use Rattle.nano_bin_bytes.specs.Variants.{Variants, legal_bodies}
use Rattle.nano_bin_schema.specs.Choices.{Chosen}
use Rattle.nano_bin_schema.specs.ChoiceCodecs.{choice_codec}

-- an enum as the content of the variant that it is, and what the variants hold. The last is
-- `refl`: it checks that two bytes distinguish the variants
abbrev pub bin_choice : {A B : Type 0} (view : A → B) (variants : Chosen B)
    → true ≡ leb (count_variants (legal_bodies variants.bodies)) 65536 → Codec A
bin_choice view variants few =
    let count = count_variants (legal_bodies variants.bodies) in
    codec_as view (choice_codec variants (leb-true count 65536 (sym few)))

-- the two bytes at this place are a tag that no variant has
pub record HasUnknownTag (vs : Variants) (bytes : List ℕ) (start : ℕ) : Type 0 where
  pub tag : ℕ
  pub end : ℕ
  pub stands : Decodes (EncodesNumber 2) bytes start tag end
  pub unknown : count_variants (legal_bodies vs) ≤ tag
