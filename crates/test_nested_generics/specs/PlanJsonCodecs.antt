-- Written by derive_files: types that contain themselves, and their codecs.
use Rattle.std.specs.Prelude.{◌≡◌, ℕ, refl, codes, Vec}
use Rattle.std.specs.Global.{Global}
use Rattle.std.proofs.Common.{◌∙◌}
use Rattle.nano_value.specs.Meaning.{Meaning, Agrees}
use Rattle.nano_schema_levels.proofs.StepsLaws.{later_depth, list_depth}
use Rattle.nano_levels.specs.Layers.{Layer, Nested}
use Rattle.nano_levels.proofs.LayersLaws.{itself_layer, list_layer, other_layer}
use Rattle.nano_levels.proofs.LevelsLaws.{level, limited}
use Rattle.nano_schema_levels.specs.VariantLayers.{VariantsLayer}
use Rattle.nano_schema_levels.proofs.FieldLayersLaws.{fields_pair_layer, other_fields, required_layer, struct_layer}
use Rattle.nano_schema_levels.proofs.LegalLevelsLaws.{agree_by_steps, nested_agrees}
use Rattle.nano_schema_levels.proofs.PartLaws.{pair_layer, seen_layer, single_layer}
use Rattle.nano_schema_levels.proofs.VariantLayersLaws.{choice_layer, last_variant, next_unit, next_variant}
use Rattle.nano_bin_nested.proofs.LegalLaws.{nested_agrees as bin_agrees}
use Rattle.nano_json.specs.Codec.{Codec, codec_as}
use Rattle.nano_json.specs.ContainerCodecs.{list_codec, option_codec}
use Rattle.nano_json_tokens.specs.Cut.{json_grammar}
use Rattle.nano_json_tokens.proofs.JsonLaws.{json, block_brackets, block_style, tuple_style}
use Rattle.nano_json_schema.specs.FieldCodecs.{plain_names, json_fields, required_field}
use Rattle.nano_json_schema.specs.VariantCodecs.{json_variants}
use Rattle.test_nested_generics.specs.declared.plan.Plan.{Plan}
use Rattle.test_nested_generics.specs.declared.plan.Plan.TheOpen.{Plan-F}
use Rattle.test_nested_generics.specs.declared.plan.Plan.TheViews.{out-Plan}
use Rattle.test_nested_generics.specs.declared.plan.Plan.TheFolds.{map-Plan, fold_out-Plan}
use Rattle.test_nested_generics.specs.PlanCodecs.{PlanContent, plan_opened, plan_view, plan_means, plan_means_step}
use Rattle.test_nested_generics.specs.PlanCodecs.{plan_depth, plan_depth_step}
use Rattle.test_nested_generics.specs.PlanCodecs.{plan_step, plan_nested, plan_codec}
use Rattle.test_nested_generics.specs.PlanCodecs.{plan_weaker}
use Rattle.nano_bin_bytes.specs.Codec.{Codec as BinCodec}

module _ {T : Type 0} (t_json : Codec T) where
  -- ==== Plan: the layer around the values in it

  abbrev pub plan_json_content_step : Layer json json_grammar (Plan T) (T × Vec (Plan T) Global)
  plan_json_content_step =
      struct_layer (fields_pair_layer (other_fields json_fields (required_field (codes "item") t_json)) (required_layer json_fields (codes "next") (seen_layer (λ x. x.items) (list_layer block_style block_brackets itself_layer)))) (λ f. plain_names refl) (λ f. refl)

  abbrev pub plan_json_variants : VariantsLayer json_variants (Plan T) (PlanContent T (Plan T))
  plan_json_variants =
      next_unit json_variants (codes "Nothing")
      (next_variant json_variants (codes "One") (single_layer tuple_style block_brackets (other_layer t_json)) (λ f x d. tt)
      (next_variant json_variants (codes "Many") (single_layer tuple_style block_brackets (other_layer (codec_as (λ (x : Vec T Global). x.items) (list_codec t_json)))) (λ f x d. tt)
      (next_variant json_variants (codes "Both") (pair_layer tuple_style block_brackets (seen_layer (λ x. x.value) itself_layer) (other_layer (option_codec t_json))) (λ f x d. tt)
      (last_variant json_variants (codes "Step") plan_json_content_step (λ f x d. tt)))))

  abbrev pub plan_json_layer : Layer json json_grammar (Plan T) (PlanContent T (Plan T))
  plan_json_layer = choice_layer plan_json_variants (λ f. refl) (λ f. refl)

  pub plan_json_means_opened : (y : Plan-F T (Plan T))
      → (plan_means_step t_json.canonical.means) (map-Plan T (Plan T) Meaning (plan_means t_json.canonical.means) y)
      ≡ plan_json_layer.means (plan_means t_json.canonical.means) (plan_opened y)
  plan_json_means_opened Plan-F.Nothing = refl
  plan_json_means_opened (Plan-F.One v) = refl
  plan_json_means_opened (Plan-F.Many v) = refl
  plan_json_means_opened (Plan-F.Both v0 v1) = refl
  plan_json_means_opened (Plan-F.Step v0 v1) = refl

  pub plan_json_depth_opened : (y : Plan-F T (Plan T))
      → plan_depth_step (map-Plan T (Plan T) ℕ plan_depth y)
      ≡ plan_json_layer.deep plan_depth (plan_opened y)
  plan_json_depth_opened Plan-F.Nothing = refl
  plan_json_depth_opened (Plan-F.One v) = refl
  plan_json_depth_opened (Plan-F.Many v) = refl
  plan_json_depth_opened (Plan-F.Both v0 v1) = refl
  plan_json_depth_opened (Plan-F.Step v0 v1) = later_depth (list_depth _ _ _ (λ x. refl) v1.items)

  abbrev pub plan_json_nested : Nested json json_grammar (Plan T)
  plan_json_nested = record {
    Seen = PlanContent T (Plan T);
    layer = plan_json_layer;
    view = plan_view;
    means = (plan_means t_json.canonical.means);
    depth = plan_depth;
    means_is = λ x. fold_out-Plan T Meaning (plan_means_step t_json.canonical.means) x ∙ plan_json_means_opened (out-Plan T x);
    depth_is = λ x. fold_out-Plan T ℕ plan_depth_step x ∙ plan_json_depth_opened (out-Plan T x);
  }

  -- those of at most so many levels
  abbrev pub plan_json_at : ℕ → Codec (Plan T)
  plan_json_at = level plan_json_nested

  -- those that are read
  abbrev pub plan_json : Codec (Plan T)
  plan_json = limited plan_json_nested 128

  pub plan_json_agrees : (t_bin : BinCodec T)
      → (t_same : Agrees t_bin.canonical.means t_bin.encoding.legal
      t_json.canonical.means t_json.encoding.legal)
      → Agrees (plan_means t_bin.canonical.means) (plan_codec t_bin).encoding.legal (plan_means t_json.canonical.means)
      plan_json.encoding.legal
  plan_json_agrees t_bin t_same =
      agree_by_steps (plan_weaker t_same.allows) (plan_weaker t_same.is_legal)
      (bin_agrees (plan_nested t_bin) (plan_step t_bin.encoding.legal) (λ f. refl))
      (nested_agrees plan_json_nested (plan_step t_json.encoding.legal) (λ f. refl) 128)
      (λ i. plan_means (t_same.means_is i))
