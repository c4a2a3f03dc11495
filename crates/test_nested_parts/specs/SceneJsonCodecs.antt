-- Written by derive_files: types that contain themselves, and their codecs.
use Rattle.std.specs.Prelude.{◌≡◌, ℕ, refl, codes}
use Rattle.std.proofs.Common.{◌∙◌}
use Rattle.nano_value.specs.Meaning.{Meaning, Agrees}
use Rattle.nano_schema_levels.proofs.StepsLaws.{later_depth, list_depth}
use Rattle.nano_levels.specs.Layers.{Layer, Nested}
use Rattle.nano_levels.proofs.LayersLaws.{itself_layer, list_layer}
use Rattle.nano_levels.proofs.LevelsLaws.{level, limited}
use Rattle.nano_schema_levels.specs.FieldLayers.{FieldsLayer}
use Rattle.nano_schema_levels.proofs.FieldLayersLaws.{fields_pair_layer, other_fields, required_layer, struct_layer}
use Rattle.nano_schema_levels.proofs.LegalLevelsLaws.{agree_through, legal_as, nested_agrees}
use Rattle.nano_schema_levels.proofs.PartLaws.{seen_layer}
use Rattle.nano_bin_nested.proofs.LegalLaws.{nested_agrees as bin_agrees}
use Rattle.nano_json.specs.Codec.{Codec}
use Rattle.nano_json_tokens.specs.Cut.{json_grammar}
use Rattle.nano_json_tokens.proofs.JsonLaws.{json, block_brackets, block_style}
use Rattle.nano_json_schema.specs.FieldCodecs.{plain_names, json_fields, required_field}
use Rattle.test_nested_parts.specs.contracts.mode.derived.ModeJsonCodec.TheImpl.{ghosts as mode_json}
use Rattle.test_nested_parts.specs.declared.scene.Scene.{Scene}
use Rattle.test_nested_parts.specs.declared.scene.Scene.TheOpen.{Scene-F}
use Rattle.test_nested_parts.specs.declared.scene.Scene.TheViews.{out-Scene}
use Rattle.test_nested_parts.specs.declared.scene.Scene.TheFolds.{map-Scene, fold_out-Scene}
use Rattle.test_nested_parts.specs.SceneCodecs.{SceneContent, scene_opened, scene_view, scene_means, scene_means_step}
use Rattle.test_nested_parts.specs.SceneCodecs.{scene_depth, scene_depth_step}
use Rattle.test_nested_parts.specs.SceneCodecs.{scene_step, scene_nested, scene_codec}
use Rattle.test_nested_parts.specs.declared.mode.Mode.{Mode}

-- the codec of `Mode`
abbrev pub mode_part : Codec Mode
mode_part = mode_json.json

-- ==== Scene: the layer around the values in it

abbrev pub scene_json_fields : FieldsLayer json_fields Scene (SceneContent Scene)
scene_json_fields =
    fields_pair_layer (other_fields json_fields (required_field (codes "mode") mode_part)) (required_layer json_fields (codes "scenes") (seen_layer (λ x. x.items) (list_layer block_style block_brackets itself_layer)))

abbrev pub scene_json_layer : Layer json json_grammar Scene (SceneContent Scene)
scene_json_layer = struct_layer scene_json_fields (λ f. plain_names refl) (λ f. refl)

pub scene_json_means_opened : (y : Scene-F Scene)
    → scene_means_step (map-Scene Scene Meaning scene_means y)
    ≡ scene_json_layer.means scene_means (scene_opened y)
scene_json_means_opened y = refl

pub scene_json_depth_opened : (y : Scene-F Scene)
    → scene_depth_step (map-Scene Scene ℕ scene_depth y)
    ≡ scene_json_layer.deep scene_depth (scene_opened y)
scene_json_depth_opened y = later_depth (list_depth _ _ _ (λ x. refl) y.scenes.items)

abbrev pub scene_json_nested : Nested json json_grammar Scene
scene_json_nested = record {
  Seen = SceneContent Scene;
  layer = scene_json_layer;
  view = scene_view;
  means = scene_means;
  depth = scene_depth;
  means_is = λ x. fold_out-Scene Meaning scene_means_step x ∙ scene_json_means_opened (out-Scene x);
  depth_is = λ x. fold_out-Scene ℕ scene_depth_step x ∙ scene_json_depth_opened (out-Scene x);
}

-- those of at most so many levels
abbrev pub scene_json_at : ℕ → Codec Scene
scene_json_at = level scene_json_nested

pub scene_json_agrees : Agrees scene_means scene_codec.encoding.legal scene_means
    (limited scene_json_nested 128).encoding.legal
scene_json_agrees =
    agree_through (bin_agrees scene_nested scene_step (λ f. refl))
    (nested_agrees scene_json_nested scene_step (λ f. refl) 128)

-- those that are read, and what is legal in the words of the format before
abbrev pub scene_json : Codec Scene
scene_json = legal_as (limited scene_json_nested 128) scene_json_agrees
