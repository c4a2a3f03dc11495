-- Enums that are written and read back: what is written of a sound value encodes its meaning.
use Rattle.std.specs.Prelude.{◌⊎◌, ℕ, suc, ◌&&◌, Bool, true, List, ◌++◌}
use Rattle.std.proofs.Common.{inl, inr}
use Rattle.nano_value.specs.Meaning.{Meaning, nothing}
use Rattle.nano_value.specs.Sums.{tagged}
use Rattle.nano_grammar.specs.Tokens.{Cutting}
use Rattle.nano_grammar.specs.Codec.{Codec, Grammar, Encoding}
use Rattle.nano_grammar.specs.Variants.{VariantStyle, Variants, no_variants, unit_variant, variant}

-- ==== how the variants of an enum are written

module _ {T : Type 0} {c : Cutting T} {g : Grammar T} (s : VariantStyle c g) where
  -- the type of a content, with its format, whose texts can stand as content
  pub record Body : Type 1 where
    pub Fields : Type 0
    pub codec : Codec c g Fields
    pub fits : (x : Fields) (d : ℕ) → s.IsContent (codec.canonical.text d x)

  -- what stands for a variant with content
  abbrev pub content_tokens : List ℕ → List T → List T
  content_tokens name ts = s.opened name ++ (ts ++ s.closing)

module _ {T : Type 0} {c : Cutting T} {g : Grammar T} {s : VariantStyle c g} where
  -- how the contents are encoded
  abbrev pub encodings : Variants (Body s) → Variants (Encoding g)
  encodings no_variants = no_variants
  encodings (unit_variant name others) = unit_variant name (encodings others)
  encodings (variant name content others) =
      variant name content.codec.encoding (encodings others)

  -- a value as that of its variant: nothing but the variant, or its content
  abbrev pub Seen : Variants (Body s) → Type 0
  Seen no_variants = ⊥
  Seen (unit_variant name others) = Unit {0} ⊎ Seen others
  Seen (variant name content others) = content.Fields ⊎ Seen others

  -- the place of a value's variant, counted from this one on
  abbrev pub tag_of : ℕ → (vs : Variants (Body s)) → Seen vs → ℕ
  tag_of tag no_variants x = absurd x
  tag_of tag (unit_variant name others) (inl x) = tag
  tag_of tag (unit_variant name others) (inr x) = tag_of (suc tag) others x
  tag_of tag (variant name content others) (inl x) = tag
  tag_of tag (variant name content others) (inr x) = tag_of (suc tag) others x

  -- what its content means
  abbrev pub content_of : (vs : Variants (Body s)) → Seen vs → Meaning
  content_of no_variants x = absurd x
  content_of (unit_variant name others) (inl x) = nothing
  content_of (unit_variant name others) (inr x) = content_of others x
  content_of (variant name content others) (inl x) = content.codec.canonical.means x
  content_of (variant name content others) (inr x) = content_of others x

  abbrev pub seen_means : ℕ → (vs : Variants (Body s)) → Seen vs → Meaning
  seen_means tag vs x = tagged (tag_of tag vs x) (content_of vs x)

  abbrev pub seen_text : (vs : Variants (Body s)) → ℕ → Seen vs → List ℕ
  seen_text no_variants d x = absurd x
  seen_text (unit_variant name others) d (inl x) = s.alone_text name
  seen_text (unit_variant name others) d (inr x) = seen_text others d x
  seen_text (variant name content others) d (inl x) =
      s.content_text name (content.codec.canonical.text d x)
  seen_text (variant name content others) d (inr x) = seen_text others d x

  abbrev pub seen_tokens : (vs : Variants (Body s)) → Seen vs → List T
  seen_tokens no_variants x = absurd x
  seen_tokens (unit_variant name others) (inl x) = s.alone name
  seen_tokens (unit_variant name others) (inr x) = seen_tokens others x
  seen_tokens (variant name content others) (inl x) =
      content_tokens s name (content.codec.canonical.tokens x)
  seen_tokens (variant name content others) (inr x) = seen_tokens others x

  -- each name can be written
  abbrev pub names_are_good : Variants (Body s) → Bool
  names_are_good no_variants = true
  names_are_good (unit_variant name others) = s.is_name name && names_are_good others
  names_are_good (variant name content others) = s.is_name name && names_are_good others

-- ==== codecs of variants

-- a value is sound if its content is
abbrev pub SoundContent : {T : Type 0} {c : Cutting T} {g : Grammar T} {s : VariantStyle c g}
    (vs : Variants (Body s))
    → Seen vs → Type 0
SoundContent no_variants x = ⊥
SoundContent (unit_variant name others) (inl x) = Unit {0}
SoundContent (unit_variant name others) (inr x) = SoundContent others x
SoundContent (variant name content others) (inl x) = content.codec.sound x
SoundContent (variant name content others) (inr x) = SoundContent others x
