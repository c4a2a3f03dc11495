-- Written by derive_files: types that contain themselves, and their codecs.
use Rattle.std.specs.Prelude.{◌≡◌, ℕ, refl, codes, Box, Option}
use Rattle.std.specs.Global.{Global}
use Rattle.std.proofs.Common.{◌∙◌}
use Rattle.nano_value.specs.Meaning.{Meaning, Agrees}
use Rattle.nano_schema_levels.proofs.StepsLaws.{by_option}
use Rattle.nano_levels.specs.Layers.{Layer, Nested}
use Rattle.nano_levels.proofs.LayersLaws.{itself_layer, other_layer}
use Rattle.nano_levels.proofs.LevelsLaws.{level, limited}
use Rattle.nano_schema_levels.specs.VariantLayers.{VariantsLayer}
use Rattle.nano_schema_levels.proofs.FieldLayersLaws.{fields_pair_layer, optional_layer, required_layer, struct_layer}
use Rattle.nano_schema_levels.proofs.LegalLevelsLaws.{agree_through, legal_as, nested_agrees}
use Rattle.nano_schema_levels.proofs.PartLaws.{seen_layer, single_layer}
use Rattle.nano_schema_levels.proofs.VariantLayersLaws.{choice_layer, last_variant, next_unit, next_variant}
use Rattle.nano_bin_nested.proofs.LegalLaws.{nested_agrees as bin_agrees}
use Rattle.nano_json.specs.Codec.{Codec}
use Rattle.nano_json_tokens.specs.Cut.{json_grammar}
use Rattle.nano_json_tokens.proofs.JsonLaws.{json, block_brackets, tuple_style}
use Rattle.nano_json_schema.specs.FieldCodecs.{plain_names, json_fields, u8_codec}
use Rattle.nano_json_schema.specs.VariantCodecs.{json_variants}
use Rattle.test_nested_derived.specs.declared.rule.Rule.{Rule}
use Rattle.test_nested_derived.specs.declared.rule.Rule.TheOpen.{Rule-F}
use Rattle.test_nested_derived.specs.declared.rule.Rule.TheViews.{out-Rule}
use Rattle.test_nested_derived.specs.declared.rule.Rule.TheFolds.{map-Rule, fold_out-Rule}
use Rattle.test_nested_derived.specs.RuleCodecs.{RuleContent, rule_opened, rule_view, rule_means, rule_means_step}
use Rattle.test_nested_derived.specs.RuleCodecs.{rule_depth, rule_depth_step}
use Rattle.test_nested_derived.specs.RuleCodecs.{rule_step, rule_nested, rule_codec}

-- ==== Rule: the layer around the values in it

abbrev pub rule_json_content_when : Layer json json_grammar Rule (Box Rule Global × (Box Rule Global × Option (Box Rule Global)))
rule_json_content_when =
    struct_layer (fields_pair_layer (required_layer json_fields (codes "condition") (seen_layer (λ x. x.value) itself_layer)) (fields_pair_layer (required_layer json_fields (codes "then") (seen_layer (λ x. x.value) itself_layer)) (optional_layer json_fields (codes "otherwise") (seen_layer (λ x. x.value) itself_layer)))) (λ f. plain_names refl) (λ f. refl)

abbrev pub rule_json_variants : VariantsLayer json_variants Rule (RuleContent Rule)
rule_json_variants =
    next_unit json_variants (codes "Always")
    (next_variant json_variants (codes "From") (single_layer tuple_style block_brackets (other_layer u8_codec)) (λ f x d. tt)
    (last_variant json_variants (codes "When") rule_json_content_when (λ f x d. tt)))

abbrev pub rule_json_layer : Layer json json_grammar Rule (RuleContent Rule)
rule_json_layer = choice_layer rule_json_variants (λ f. refl) (λ f. refl)

pub rule_json_means_opened : (y : Rule-F Rule)
    → rule_means_step (map-Rule Rule Meaning rule_means y)
    ≡ rule_json_layer.means rule_means (rule_opened y)
rule_json_means_opened Rule-F.Always = refl
rule_json_means_opened (Rule-F.From v) = refl
rule_json_means_opened (Rule-F.When v0 v1 v2) =
    by_option (λ o. rule_means_step (map-Rule Rule Meaning rule_means (Rule-F.When v0 v1 o))
    ≡ rule_json_layer.means rule_means (rule_opened {X = Rule} (Rule-F.When v0 v1 o)))
    refl (λ x2. refl)
    v2

pub rule_json_depth_opened : (y : Rule-F Rule)
    → rule_depth_step (map-Rule Rule ℕ rule_depth y)
    ≡ rule_json_layer.deep rule_depth (rule_opened y)
rule_json_depth_opened Rule-F.Always = refl
rule_json_depth_opened (Rule-F.From v) = refl
rule_json_depth_opened (Rule-F.When v0 v1 v2) =
    by_option (λ o. rule_depth_step (map-Rule Rule ℕ rule_depth (Rule-F.When v0 v1 o))
    ≡ rule_json_layer.deep rule_depth (rule_opened {X = Rule} (Rule-F.When v0 v1 o)))
    refl (λ x2. refl)
    v2

abbrev pub rule_json_nested : Nested json json_grammar Rule
rule_json_nested = record {
  Seen = RuleContent Rule;
  layer = rule_json_layer;
  view = rule_view;
  means = rule_means;
  depth = rule_depth;
  means_is = λ x. fold_out-Rule Meaning rule_means_step x ∙ rule_json_means_opened (out-Rule x);
  depth_is = λ x. fold_out-Rule ℕ rule_depth_step x ∙ rule_json_depth_opened (out-Rule x);
}

-- those of at most so many levels
abbrev pub rule_json_at : ℕ → Codec Rule
rule_json_at = level rule_json_nested

pub rule_json_agrees : Agrees rule_means rule_codec.encoding.legal rule_means
    (limited rule_json_nested 5).encoding.legal
rule_json_agrees =
    agree_through (bin_agrees rule_nested rule_step (λ f. refl))
    (nested_agrees rule_json_nested rule_step (λ f. refl) 5)

-- those that are read, and what is legal in the words of the format before
abbrev pub rule_json : Codec Rule
rule_json = legal_as (limited rule_json_nested 5) rule_json_agrees
