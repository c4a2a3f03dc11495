-- Written by derive_files: types that contain themselves, and their codecs.
use Rattle.std.specs.Prelude.{◌≡◌, ℕ, suc, map, refl, Box, Option, Vec}
use Rattle.std.specs.Global.{Global}
use Rattle.std.specs.Option.{option_map}
use Rattle.std.proofs.Common.{◌∙◌, lit≤}
use Rattle.nano_value.specs.Meaning.{Meaning, nothing, optional, listed, paired, LegalUnit, LegalOption, LegalList, LegalPair}
use Rattle.nano_value.specs.Sums.{tagged, LegalVariant, variant, no_variants}
use Rattle.nano_levels.specs.Layers.{greatest}
use Rattle.nano_schema.specs.declared.choices.Either.{Either}
use Rattle.nano_schema.specs.declared.choices.Either.TheVariants.{First, Later}
use Rattle.nano_schema_levels.specs.LegalLevels.{LegalStep}
use Rattle.nano_schema_levels.proofs.StepsLaws.{list_depth}
use Rattle.nano_bin_bytes.specs.Codec.{Codec}
use Rattle.nano_bin.specs.ScalarCodecs.{unit_codec}
use Rattle.nano_bin.specs.ContainerCodecs.{option_codec}
use Rattle.nano_bin_levels.specs.Layers.{Layer, Nested}
use Rattle.nano_bin_levels.proofs.LayersLaws.{itself_layer, next_layer, other_layer, seen_layer}
use Rattle.nano_bin_levels.proofs.ListsLaws.{list_layer}
use Rattle.nano_bin_levels.proofs.LevelsLaws.{nested_codec}
use Rattle.nano_bin_nested.specs.ChoiceLayerCodecs.{ChoiceLayer, choice_layer, last_variant, next_variant}
use Rattle.test_nested_parts.specs.contracts.scene.derived.SceneBinCodec.TheImpl.{ghosts as scene_bin}
use Rattle.test_nested_parts.specs.declared.plan.Plan.{Plan}
use Rattle.test_nested_parts.specs.declared.plan.Plan.TheOpen.{Plan-F}
use Rattle.test_nested_parts.specs.declared.plan.Plan.TheViews.{out-Plan}
use Rattle.test_nested_parts.specs.declared.plan.Plan.TheFolds.{map-Plan, fold-Plan, fold_out-Plan}
use Rattle.test_nested_parts.specs.declared.scene.Scene.{Scene}
use Rattle.test_nested_parts.specs.contracts.scene.derived.SceneValue.TheImpl.{ghosts as scene_value}

-- the codec of `Scene`
abbrev pub scene_part : Codec Scene
scene_part = scene_bin.bin

-- ==== Plan: what a value is seen as

abbrev pub PlanContent : Type 0 → Type 0
PlanContent X = Either (Unit {0}) (Either (Scene × Box X Global) (Option Scene × Vec X Global))

abbrev pub plan_opened : {X : Type 0} → Plan-F X → PlanContent X
plan_opened Plan-F.End = First (tt {0})
plan_opened (Plan-F.Go v0 v1) = Later (First (v0, v1))
plan_opened (Plan-F.Choose v0 v1) = Later (Later (v0, v1))

abbrev pub plan_view : Plan → PlanContent Plan
plan_view x = plan_opened (out-Plan x)

-- ---- what it means, and how deep it is

abbrev pub plan_means_step : Plan-F Meaning → Meaning
plan_means_step Plan-F.End = tagged 0 nothing
plan_means_step (Plan-F.Go v0 v1) = tagged 1 (paired (scene_value.means v0, v1.value))
plan_means_step (Plan-F.Choose v0 v1) =
    tagged 2 (paired (optional (option_map scene_value.means v0), listed v1.items))

abbrev pub plan_means : Plan → Meaning
plan_means = fold-Plan Meaning plan_means_step

abbrev pub plan_depth_step : Plan-F ℕ → ℕ
plan_depth_step Plan-F.End = 0
plan_depth_step (Plan-F.Go v0 v1) = suc v1.value
plan_depth_step (Plan-F.Choose v0 v1) = greatest (map (λ x. suc x) v1.items)

abbrev pub plan_depth : Plan → ℕ
plan_depth = fold-Plan ℕ plan_depth_step

-- ---- which meanings are legal, given those that are of the values in it

abbrev pub plan_step : LegalStep
plan_step P =
    LegalVariant (variant LegalUnit (variant (LegalPair scene_value.legal P) (variant (LegalPair (LegalOption scene_value.legal) (LegalList P)) no_variants)))

-- ---- as bytes: the layer around the values in it, and the codec

abbrev pub plan_variants : ChoiceLayer Plan (PlanContent Plan)
plan_variants =
    next_variant (other_layer unit_codec)
    (next_variant (next_layer scene_part (seen_layer (λ x. x.value) itself_layer))
    (last_variant (next_layer (option_codec scene_part) (seen_layer (λ x. x.items) (list_layer itself_layer)))))

abbrev pub plan_layer : Layer Plan (PlanContent Plan)
plan_layer = choice_layer plan_variants (λ f. lit≤ tt)

pub plan_means_opened : (y : Plan-F Plan)
    → plan_means_step (map-Plan Plan Meaning plan_means y)
    ≡ plan_layer.means plan_means (plan_opened y)
plan_means_opened Plan-F.End = refl
plan_means_opened (Plan-F.Go v0 v1) = refl
plan_means_opened (Plan-F.Choose v0 v1) = refl

pub plan_depth_opened : (y : Plan-F Plan)
    → plan_depth_step (map-Plan Plan ℕ plan_depth y)
    ≡ plan_layer.deep plan_depth (plan_opened y)
plan_depth_opened Plan-F.End = refl
plan_depth_opened (Plan-F.Go v0 v1) = refl
plan_depth_opened (Plan-F.Choose v0 v1) = list_depth _ _ _ (λ x. refl) v1.items

abbrev pub plan_nested : Nested Plan
plan_nested = record {
  Seen = PlanContent Plan;
  layer = plan_layer;
  view = plan_view;
  means = plan_means;
  depth = plan_depth;
  means_is = λ x. fold_out-Plan Meaning plan_means_step x ∙ plan_means_opened (out-Plan x);
  depth_is = λ x. fold_out-Plan ℕ plan_depth_step x ∙ plan_depth_opened (out-Plan x);
}

abbrev pub plan_codec : Codec Plan
plan_codec = nested_codec plan_nested
