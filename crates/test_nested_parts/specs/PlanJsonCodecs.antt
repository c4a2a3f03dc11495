-- Written by derive_files: types that contain themselves, and their codecs.
use Rattle.std.specs.Prelude.{◌≡◌, ℕ, refl, codes, Option, Vec}
use Rattle.std.specs.Global.{Global}
use Rattle.std.proofs.Common.{◌∙◌}
use Rattle.nano_value.specs.Meaning.{Meaning, Agrees}
use Rattle.nano_schema_levels.proofs.StepsLaws.{later_depth, list_depth}
use Rattle.nano_levels.specs.Layers.{Layer, Nested}
use Rattle.nano_levels.proofs.LayersLaws.{itself_layer, list_layer, other_layer}
use Rattle.nano_levels.proofs.LevelsLaws.{level, limited}
use Rattle.nano_schema_levels.specs.VariantLayers.{VariantsLayer}
use Rattle.nano_schema_levels.proofs.FieldLayersLaws.{fields_pair_layer, other_fields, required_layer, struct_layer}
use Rattle.nano_schema_levels.proofs.LegalLevelsLaws.{agree_through, legal_as, nested_agrees}
use Rattle.nano_schema_levels.proofs.PartLaws.{pair_layer, seen_layer}
use Rattle.nano_schema_levels.proofs.VariantLayersLaws.{choice_layer, last_variant, next_unit, next_variant}
use Rattle.nano_bin_nested.proofs.LegalLaws.{nested_agrees as bin_agrees}
use Rattle.nano_json.specs.Codec.{Codec}
use Rattle.nano_json_tokens.specs.Cut.{json_grammar}
use Rattle.nano_json_tokens.proofs.JsonLaws.{json, block_brackets, block_style, tuple_style}
use Rattle.nano_json_schema.specs.FieldCodecs.{plain_names, json_fields, optional_field}
use Rattle.nano_json_schema.specs.VariantCodecs.{json_variants}
use Rattle.test_nested_parts.specs.contracts.scene.derived.SceneJsonCodec.TheImpl.{ghosts as scene_json}
use Rattle.test_nested_parts.specs.declared.plan.Plan.{Plan}
use Rattle.test_nested_parts.specs.declared.plan.Plan.TheOpen.{Plan-F}
use Rattle.test_nested_parts.specs.declared.plan.Plan.TheViews.{out-Plan}
use Rattle.test_nested_parts.specs.declared.plan.Plan.TheFolds.{map-Plan, fold_out-Plan}
use Rattle.test_nested_parts.specs.PlanCodecs.{PlanContent, plan_opened, plan_view, plan_means, plan_means_step}
use Rattle.test_nested_parts.specs.PlanCodecs.{plan_depth, plan_depth_step}
use Rattle.test_nested_parts.specs.PlanCodecs.{plan_step, plan_nested, plan_codec}
use Rattle.test_nested_parts.specs.declared.scene.Scene.{Scene}

-- the codec of `Scene`
abbrev pub scene_part : Codec Scene
scene_part = scene_json.json

-- ==== Plan: the layer around the values in it

abbrev pub plan_json_content_choose : Layer json json_grammar Plan (Option Scene × Vec Plan Global)
plan_json_content_choose =
    struct_layer (fields_pair_layer (other_fields json_fields (optional_field (codes "at") scene_part)) (required_layer json_fields (codes "plans") (seen_layer (λ x. x.items) (list_layer block_style block_brackets itself_layer)))) (λ f. plain_names refl) (λ f. refl)

abbrev pub plan_json_variants : VariantsLayer json_variants Plan (PlanContent Plan)
plan_json_variants =
    next_unit json_variants (codes "End")
    (next_variant json_variants (codes "Go") (pair_layer tuple_style block_brackets (other_layer scene_part) (seen_layer (λ x. x.value) itself_layer)) (λ f x d. tt)
    (last_variant json_variants (codes "Choose") plan_json_content_choose (λ f x d. tt)))

abbrev pub plan_json_layer : Layer json json_grammar Plan (PlanContent Plan)
plan_json_layer = choice_layer plan_json_variants (λ f. refl) (λ f. refl)

pub plan_json_means_opened : (y : Plan-F Plan)
    → plan_means_step (map-Plan Plan Meaning plan_means y)
    ≡ plan_json_layer.means plan_means (plan_opened y)
plan_json_means_opened Plan-F.End = refl
plan_json_means_opened (Plan-F.Go v0 v1) = refl
plan_json_means_opened (Plan-F.Choose v0 v1) = refl

pub plan_json_depth_opened : (y : Plan-F Plan)
    → plan_depth_step (map-Plan Plan ℕ plan_depth y)
    ≡ plan_json_layer.deep plan_depth (plan_opened y)
plan_json_depth_opened Plan-F.End = refl
plan_json_depth_opened (Plan-F.Go v0 v1) = later_depth refl
plan_json_depth_opened (Plan-F.Choose v0 v1) = later_depth (list_depth _ _ _ (λ x. refl) v1.items)

abbrev pub plan_json_nested : Nested json json_grammar Plan
plan_json_nested = record {
  Seen = PlanContent Plan;
  layer = plan_json_layer;
  view = plan_view;
  means = plan_means;
  depth = plan_depth;
  means_is = λ x. fold_out-Plan Meaning plan_means_step x ∙ plan_json_means_opened (out-Plan x);
  depth_is = λ x. fold_out-Plan ℕ plan_depth_step x ∙ plan_json_depth_opened (out-Plan x);
}

-- those of at most so many levels
abbrev pub plan_json_at : ℕ → Codec Plan
plan_json_at = level plan_json_nested

pub plan_json_agrees : Agrees plan_means plan_codec.encoding.legal plan_means
    (limited plan_json_nested 128).encoding.legal
plan_json_agrees =
    agree_through (bin_agrees plan_nested plan_step (λ f. refl))
    (nested_agrees plan_json_nested plan_step (λ f. refl) 128)

-- those that are read, and what is legal in the words of the format before
abbrev pub plan_json : Codec Plan
plan_json = legal_as (limited plan_json_nested 128) plan_json_agrees
