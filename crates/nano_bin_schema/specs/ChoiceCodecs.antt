-- The codecs of enums from their schema, which carry their laws.
use Rattle.std.specs.Prelude.{◌≡◌, ◌+◌, ◌≤◌, ℕ, suc, true}
use Rattle.std.proofs.Common.{sym, ◌∙◌, subst, ap, arith}
use Rattle.nano_value.specs.Sums.{tagged, LegalVariant, count_variants}
use Rattle.nano_bin_bytes.specs.Codec.{Codec}
use Rattle.nano_bin_bytes.specs.Variants.{EncodesEnum, no_variants, variant, body, written_tagged}
use Rattle.nano_bin_bytes.specs.Variants.{tagged_means, legal_bodies, are_read}
use Rattle.nano_bin.specs.ContainerCodecs.{variants_of}
use Rattle.nano_bin_bytes.proofs.VariantsLaws.{tagged_same, tagged_reads_back}
use Rattle.nano_schema.specs.Choices.{either_is}
use Rattle.nano_schema.specs.declared.choices.Either.{Either}
use Rattle.nano_schema.specs.declared.choices.Either.TheVariants.{First, Later}
use Rattle.nano_bin_schema.specs.Choices.{content_of, Chosen, by_next_tag}

module _ {A : Type 0} (f : Codec A) where
  pub last_meant : (from : ℕ) (x : A)
      → tagged from (f.canonical.means x) ≡ tagged (0 + from) (f.canonical.means x)
  last_meant from x =
      let e : from ≡ 0 + from = omega arith in
      ap (λ n. tagged n (f.canonical.means x)) e

  -- one variant
  abbrev pub last_choice : Chosen A
  last_choice = record {
    bodies = variant (body f) no_variants;
    means = λ from x. tagged from (f.canonical.means x);
    by_tag = λ x. record { tag = 0; fields = x };
    meant = last_meant;
  }

  module _ {B : Type 0} (others : Chosen B) where
    pub next_meant : (from : ℕ) (x : Either A B)
        → either_is (λ a. tagged from (f.canonical.means a)) (others.means (suc from)) x
        ≡ tagged ((by_next_tag f others x).tag + from)
        (content_of (variant (body f) others.bodies) (by_next_tag f others x))
    next_meant from (First x) = last_meant from x
    next_meant from (Later y) =
        let place = (others.by_tag y).tag in
        let e : place + suc from ≡ suc place + from = omega arith in
        others.meant (suc from) y
        ∙ ap (λ n. tagged n (content_of others.bodies (others.by_tag y))) e

    -- a variant, and those after it
    abbrev pub next_choice : Chosen (Either A B)
    next_choice = record {
      bodies = variant (body f) others.bodies;
      means = λ from. either_is (λ a. tagged from (f.canonical.means a)) (others.means (suc from));
      by_tag = by_next_tag f others;
      meant = next_meant;
    }

-- ---- the format of an enum

module _ {A : Type 0} (c : Chosen A) where
  pub means_tagged : (x : A) → c.means 0 x ≡ tagged_means c.bodies (c.by_tag x)
  means_tagged x =
      let place = (c.by_tag x).tag in
      let e : place + 0 ≡ place = omega arith in
      c.meant 0 x ∙ ap (λ n. tagged n (content_of c.bodies (c.by_tag x))) e

  pub choice_same : (x y : A) → c.means 0 x ≡ c.means 0 y
      → written_tagged c.bodies (c.by_tag x) ≡ written_tagged c.bodies (c.by_tag y)
  choice_same x y e =
      tagged_same c.bodies (c.by_tag x) (c.by_tag y)
      (sym (means_tagged x) ∙ (e ∙ means_tagged y))

  module _ (few : count_variants (legal_bodies c.bodies) ≤ 65536) where
    pub choice_reads_back : are_read c.bodies ≡ true → (x : A)
        → LegalVariant (legal_bodies c.bodies) (c.means 0 x)
        → EncodesEnum c.bodies (written_tagged c.bodies (c.by_tag x)) (c.means 0 x)
    choice_reads_back is x h =
        let legal = subst (LegalVariant (legal_bodies c.bodies)) (means_tagged x) h in
        let back = tagged_reads_back c.bodies few is (c.by_tag x) legal in
        subst (EncodesEnum c.bodies (written_tagged c.bodies (c.by_tag x)))
        (sym (means_tagged x)) back

    -- the format of values that are one of at most 65,536 variants
    abbrev pub choice_codec : Codec A
    choice_codec = record {
      canonical = record {
        means = c.means 0;
        written = λ x. written_tagged c.bodies (c.by_tag x);
        same_written = choice_same;
      };
      encoding = variants_of c.bodies;
      is_decodable = are_read c.bodies;
      reads_back = choice_reads_back;
    }
