-- Written by derive_files: types that contain themselves, and their codecs.
use Rattle.std.specs.Prelude.{◌≡◌, ℕ, suc, max, refl, Box, Option}
use Rattle.std.specs.Global.{Global}
use Rattle.std.specs.Option.{option_map}
use Rattle.std.proofs.Common.{◌∙◌, lit≤}
use Rattle.nano_value.specs.Meaning.{Meaning, nothing, whole, optional, paired, LegalUnsigned, LegalUnit, LegalOption, LegalPair}
use Rattle.nano_value.specs.Sums.{tagged, LegalVariant, variant, no_variants}
use Rattle.nano_schema.specs.declared.choices.Either.{Either}
use Rattle.nano_schema.specs.declared.choices.Either.TheVariants.{First, Later}
use Rattle.nano_schema_levels.specs.LegalLevels.{LegalStep}
use Rattle.nano_schema_levels.specs.Depths.{held_depth}
use Rattle.nano_schema_levels.proofs.StepsLaws.{by_option}
use Rattle.nano_bin_bytes.specs.Codec.{Codec}
use Rattle.nano_bin.specs.ScalarCodecs.{u8_codec, unit_codec}
use Rattle.nano_bin_levels.specs.Layers.{Layer, Nested}
use Rattle.nano_bin_levels.proofs.LayersLaws.{itself_layer, other_layer, seen_layer}
use Rattle.nano_bin_levels.proofs.OptionsLaws.{option_layer}
use Rattle.nano_bin_levels.proofs.LevelsLaws.{nested_codec}
use Rattle.nano_bin_nested.specs.ChoiceLayerCodecs.{ChoiceLayer, choice_layer, last_variant, next_variant}
use Rattle.nano_bin_nested.specs.PairLayerCodecs.{pair_layer}
use Rattle.test_nested_derived.specs.declared.rule.Rule.{Rule}
use Rattle.test_nested_derived.specs.declared.rule.Rule.TheOpen.{Rule-F}
use Rattle.test_nested_derived.specs.declared.rule.Rule.TheViews.{out-Rule}
use Rattle.test_nested_derived.specs.declared.rule.Rule.TheFolds.{map-Rule, fold-Rule, fold_out-Rule}

-- ==== Rule: what a value is seen as

abbrev pub RuleContent : Type 0 → Type 0
RuleContent X = Either (Unit {0}) (Either ℕ (Box X Global × (Box X Global × Option (Box X Global))))

abbrev pub rule_opened : {X : Type 0} → Rule-F X → RuleContent X
rule_opened Rule-F.Always = First (tt {0})
rule_opened (Rule-F.From v) = Later (First v)
rule_opened (Rule-F.When v0 v1 v2) = Later (Later (v0, (v1, v2)))

abbrev pub rule_view : Rule → RuleContent Rule
rule_view x = rule_opened (out-Rule x)

-- ---- what it means, and how deep it is

abbrev pub rule_means_step : Rule-F Meaning → Meaning
rule_means_step Rule-F.Always = tagged 0 nothing
rule_means_step (Rule-F.From v) = tagged 1 (whole v)
rule_means_step (Rule-F.When v0 v1 v2) =
    tagged 2 (paired (v0.value, paired (v1.value, optional (option_map (λ x. x.value) v2))))

abbrev pub rule_means : Rule → Meaning
rule_means = fold-Rule Meaning rule_means_step

abbrev pub rule_depth_step : Rule-F ℕ → ℕ
rule_depth_step Rule-F.Always = 0
rule_depth_step (Rule-F.From v) = 0
rule_depth_step (Rule-F.When v0 v1 v2) =
    max (suc v0.value) (max (suc v1.value) (held_depth (λ x. suc x.value) v2))

abbrev pub rule_depth : Rule → ℕ
rule_depth = fold-Rule ℕ rule_depth_step

-- ---- which meanings are legal, given those that are of the values in it

abbrev pub rule_step : LegalStep
rule_step P =
    LegalVariant (variant LegalUnit (variant (LegalUnsigned 8) (variant (LegalPair P (LegalPair P (LegalOption P))) no_variants)))

-- ---- as bytes: the layer around the values in it, and the codec

abbrev pub rule_variants : ChoiceLayer Rule (RuleContent Rule)
rule_variants =
    next_variant (other_layer unit_codec)
    (next_variant (other_layer u8_codec)
    (last_variant (pair_layer (seen_layer (λ x. x.value) itself_layer) (pair_layer (seen_layer (λ x. x.value) itself_layer) (option_layer (seen_layer (λ x. x.value) itself_layer))))))

abbrev pub rule_layer : Layer Rule (RuleContent Rule)
rule_layer = choice_layer rule_variants (λ f. lit≤ tt)

pub rule_means_opened : (y : Rule-F Rule)
    → rule_means_step (map-Rule Rule Meaning rule_means y)
    ≡ rule_layer.means rule_means (rule_opened y)
rule_means_opened Rule-F.Always = refl
rule_means_opened (Rule-F.From v) = refl
rule_means_opened (Rule-F.When v0 v1 v2) =
    by_option (λ o. rule_means_step (map-Rule Rule Meaning rule_means (Rule-F.When v0 v1 o))
    ≡ rule_layer.means rule_means (rule_opened {X = Rule} (Rule-F.When v0 v1 o)))
    refl (λ x2. refl)
    v2

pub rule_depth_opened : (y : Rule-F Rule)
    → rule_depth_step (map-Rule Rule ℕ rule_depth y)
    ≡ rule_layer.deep rule_depth (rule_opened y)
rule_depth_opened Rule-F.Always = refl
rule_depth_opened (Rule-F.From v) = refl
rule_depth_opened (Rule-F.When v0 v1 v2) =
    by_option (λ o. rule_depth_step (map-Rule Rule ℕ rule_depth (Rule-F.When v0 v1 o))
    ≡ rule_layer.deep rule_depth (rule_opened {X = Rule} (Rule-F.When v0 v1 o)))
    refl (λ x2. refl)
    v2

abbrev pub rule_nested : Nested Rule
rule_nested = record {
  Seen = RuleContent Rule;
  layer = rule_layer;
  view = rule_view;
  means = rule_means;
  depth = rule_depth;
  means_is = λ x. fold_out-Rule Meaning rule_means_step x ∙ rule_means_opened (out-Rule x);
  depth_is = λ x. fold_out-Rule ℕ rule_depth_step x ∙ rule_depth_opened (out-Rule x);
}

abbrev pub rule_codec : Codec Rule
rule_codec = nested_codec rule_nested
