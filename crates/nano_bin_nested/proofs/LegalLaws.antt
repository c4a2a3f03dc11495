-- What is proved of LegalLevels as bytes: what is legal at some level is legal, and all of it.
use Rattle.std.specs.Prelude.{◌≡◌, ℕ, zero, suc, refl}
use Rattle.std.proofs.Common.{sym, ◌∙◌, ap, subst}
use Rattle.nano_value.specs.Meaning.{Meaning, Agrees}
use Rattle.nano_bin_bytes.specs.Codec.{Codec}
use Rattle.nano_bin_levels.specs.Layers.{Nested}
use Rattle.nano_bin_levels.proofs.LevelsLaws.{level, nested_codec}
use Rattle.nano_schema_levels.specs.LegalLevels.{LegalStep, legal_level, LegalNested}

module _ {A : Type 0} (l : Nested A) (step : LegalStep) where
  -- the layer calls legal what the step does, as `λ f. refl` proves of a type
  module _ (same : (f : Codec A) → (l.layer.codec f).encoding.legal ≡ step f.encoding.legal) where
    pub level_is_legal : (n : ℕ) → (level l n).encoding.legal ≡ legal_level step n
    unfolding level
    level_is_legal zero = refl
    level_is_legal (suc n) = same (level l n) ∙ ap step (level_is_legal n)

    pub nested_agrees : Agrees l.means (LegalNested step) l.means (nested_codec l).encoding.legal
    nested_agrees = record {
      means_is = refl;
      allows = λ m h. (h.0, subst (λ P. P m) (sym (level_is_legal h.0)) h.1);
      is_legal = λ m h. (h.0, subst (λ P. P m) (level_is_legal h.0) h.1);
    }
