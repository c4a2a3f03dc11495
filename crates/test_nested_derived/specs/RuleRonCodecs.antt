-- Written by derive_files: types that contain themselves, and their codecs.
use Rattle.std.specs.Prelude.{◌≡◌, ℕ, List, refl, codes, Box, Option}
use Rattle.std.specs.Global.{Global}
use Rattle.std.proofs.Common.{◌∙◌}
use Rattle.nano_value.specs.Meaning.{Meaning, Agrees}
use Rattle.nano_schema_levels.proofs.StepsLaws.{by_option}
use Rattle.nano_levels.specs.Layers.{Layer, Nested}
use Rattle.nano_levels.proofs.LayersLaws.{itself_layer, other_layer}
use Rattle.nano_levels.proofs.LevelsLaws.{level, limited}
use Rattle.nano_schema_levels.specs.VariantLayers.{VariantsLayer}
use Rattle.nano_schema_levels.proofs.FieldLayersLaws.{fields_pair_layer, optional_layer, required_layer, struct_layer}
use Rattle.nano_schema_levels.proofs.LegalLevelsLaws.{agree_through, legal_as, nested_agrees}
use Rattle.nano_schema_levels.proofs.PartLaws.{seen_layer, single_layer}
use Rattle.nano_schema_levels.proofs.VariantLayersLaws.{choice_layer, last_variant, next_unit, next_variant}
use Rattle.nano_bin_nested.proofs.LegalLaws.{nested_agrees as bin_agrees}
use Rattle.nano_ron.specs.Codec.{Codec}
use Rattle.nano_ron_tokens.specs.Cut.{ron_grammar}
use Rattle.nano_ron_tokens.proofs.RonLaws.{ron, paren_brackets}
use Rattle.nano_ron_tokens.proofs.StylesLaws.{tuple_style}
use Rattle.nano_ron_schema.specs.FieldCodecs.{ron_fields, word_names}
use Rattle.nano_ron_schema.specs.VariantCodecs.{ron_variants}
use Rattle.nano_ron_schema.specs.Variants.{content_text}
use Rattle.nano_ron_nested.specs.TypeCodecs.{u8_codec}
use Rattle.test_nested_derived.specs.declared.rule.Rule.{Rule}
use Rattle.test_nested_derived.specs.declared.rule.Rule.TheOpen.{Rule-F}
use Rattle.test_nested_derived.specs.declared.rule.Rule.TheViews.{out-Rule}
use Rattle.test_nested_derived.specs.declared.rule.Rule.TheFolds.{map-Rule, fold_out-Rule}
use Rattle.test_nested_derived.specs.RuleCodecs.{RuleContent, rule_opened, rule_view, rule_means, rule_means_step}
use Rattle.test_nested_derived.specs.RuleCodecs.{rule_depth, rule_depth_step}
use Rattle.test_nested_derived.specs.RuleCodecs.{rule_step, rule_nested, rule_codec}

-- ==== Rule: the layer around the values in it

abbrev pub rule_ron_content_when : Layer ron ron_grammar Rule (Box Rule Global × (Box Rule Global × Option (Box Rule Global)))
rule_ron_content_when =
    struct_layer (fields_pair_layer (required_layer ron_fields (codes "condition") (seen_layer (λ x. x.value) itself_layer)) (fields_pair_layer (required_layer ron_fields (codes "then") (seen_layer (λ x. x.value) itself_layer)) (optional_layer ron_fields (codes "otherwise") (seen_layer (λ x. x.value) itself_layer)))) (λ f. word_names refl) (λ f. refl)

abbrev pub rule_ron_variants : VariantsLayer ron_variants Rule (RuleContent Rule)
rule_ron_variants =
    next_unit ron_variants (codes "Always")
    (next_variant ron_variants (codes "From") (single_layer tuple_style paren_brackets (other_layer u8_codec)) (λ f x d. refl)
    (last_variant ron_variants (codes "When") rule_ron_content_when (λ f x d. refl)))

abbrev pub rule_ron_layer : Layer ron ron_grammar Rule (RuleContent Rule)
rule_ron_layer = choice_layer rule_ron_variants (λ f. refl) (λ f. refl)

pub rule_ron_means_opened : (y : Rule-F Rule)
    → rule_means_step (map-Rule Rule Meaning rule_means y)
    ≡ rule_ron_layer.means rule_means (rule_opened y)
rule_ron_means_opened Rule-F.Always = refl
rule_ron_means_opened (Rule-F.From v) = refl
rule_ron_means_opened (Rule-F.When v0 v1 v2) =
    by_option (λ o. rule_means_step (map-Rule Rule Meaning rule_means (Rule-F.When v0 v1 o))
    ≡ rule_ron_layer.means rule_means (rule_opened {X = Rule} (Rule-F.When v0 v1 o)))
    refl (λ x2. refl)
    v2

pub rule_ron_depth_opened : (y : Rule-F Rule)
    → rule_depth_step (map-Rule Rule ℕ rule_depth y)
    ≡ rule_ron_layer.deep rule_depth (rule_opened y)
rule_ron_depth_opened Rule-F.Always = refl
rule_ron_depth_opened (Rule-F.From v) = refl
rule_ron_depth_opened (Rule-F.When v0 v1 v2) =
    by_option (λ o. rule_depth_step (map-Rule Rule ℕ rule_depth (Rule-F.When v0 v1 o))
    ≡ rule_ron_layer.deep rule_depth (rule_opened {X = Rule} (Rule-F.When v0 v1 o)))
    refl (λ x2. refl)
    v2

abbrev pub rule_ron_nested : Nested ron ron_grammar Rule
rule_ron_nested = record {
  Seen = RuleContent Rule;
  layer = rule_ron_layer;
  view = rule_view;
  means = rule_means;
  depth = rule_depth;
  means_is = λ x. fold_out-Rule Meaning rule_means_step x ∙ rule_ron_means_opened (out-Rule x);
  depth_is = λ x. fold_out-Rule ℕ rule_depth_step x ∙ rule_ron_depth_opened (out-Rule x);
}

-- those of at most so many levels
abbrev pub rule_ron_at : ℕ → Codec Rule
rule_ron_at = level rule_ron_nested

pub rule_ron_agrees : Agrees rule_means rule_codec.encoding.legal rule_means
    (limited rule_ron_nested 5).encoding.legal
rule_ron_agrees =
    agree_through (bin_agrees rule_nested rule_step (λ f. refl))
    (nested_agrees rule_ron_nested rule_step (λ f. refl) 5)

-- those that are read, and what is legal in the words of the format before
abbrev pub rule_ron : Codec Rule
rule_ron = legal_as (limited rule_ron_nested 5) rule_ron_agrees

-- a value of `When` as it is written
abbrev pub rule_ron_of_when : ℕ → Box Rule Global → Box Rule Global → Option (Box Rule Global) → List ℕ
rule_ron_of_when d v0 v1 v2 =
    content_text (codes "When") ((rule_ron_content_when.codec rule_ron).canonical.text d (v0, (v1, v2)))
