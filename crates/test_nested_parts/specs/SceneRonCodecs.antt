-- Written by derive_files: types that contain themselves, and their codecs.
use Rattle.std.specs.Prelude.{◌≡◌, ℕ, refl, codes}
use Rattle.std.proofs.Common.{◌∙◌}
use Rattle.nano_value.specs.Meaning.{Meaning, Agrees}
use Rattle.nano_schema_levels.proofs.StepsLaws.{later_depth, list_depth}
use Rattle.nano_levels.specs.Layers.{Layer, Nested}
use Rattle.nano_levels.proofs.LayersLaws.{itself_layer, list_layer}
use Rattle.nano_levels.proofs.LevelsLaws.{level, limited}
use Rattle.nano_schema_levels.specs.FieldLayers.{FieldsLayer}
use Rattle.nano_schema_levels.proofs.FieldLayersLaws.{fields_pair_layer, other_fields, required_layer, struct_layer}
use Rattle.nano_schema_levels.proofs.LegalLevelsLaws.{agree_through, legal_as, nested_agrees}
use Rattle.nano_schema_levels.proofs.PartLaws.{seen_layer}
use Rattle.nano_bin_nested.proofs.LegalLaws.{nested_agrees as bin_agrees}
use Rattle.nano_ron.specs.Codec.{Codec}
use Rattle.nano_ron_tokens.specs.Cut.{ron_grammar}
use Rattle.nano_ron_tokens.proofs.RonLaws.{ron, block_brackets}
use Rattle.nano_ron_tokens.proofs.StylesLaws.{line_style}
use Rattle.nano_ron_schema.specs.FieldCodecs.{required_field, ron_fields, word_names}
use Rattle.test_nested_parts.specs.contracts.mode.derived.ModeRonCodec.TheImpl.{ghosts as mode_ron}
use Rattle.test_nested_parts.specs.declared.scene.Scene.{Scene}
use Rattle.test_nested_parts.specs.declared.scene.Scene.TheOpen.{Scene-F}
use Rattle.test_nested_parts.specs.declared.scene.Scene.TheViews.{out-Scene}
use Rattle.test_nested_parts.specs.declared.scene.Scene.TheFolds.{map-Scene, fold_out-Scene}
use Rattle.test_nested_parts.specs.SceneCodecs.{SceneContent, scene_opened, scene_view, scene_means, scene_means_step}
use Rattle.test_nested_parts.specs.SceneCodecs.{scene_depth, scene_depth_step}
use Rattle.test_nested_parts.specs.SceneCodecs.{scene_step, scene_nested, scene_codec}
use Rattle.test_nested_parts.specs.declared.mode.Mode.{Mode}

-- the codec of `Mode`
abbrev pub mode_part : Codec Mode
mode_part = mode_ron.ron

-- ==== Scene: the layer around the values in it

abbrev pub scene_ron_fields : FieldsLayer ron_fields Scene (SceneContent Scene)
scene_ron_fields =
    fields_pair_layer (other_fields ron_fields (required_field (codes "mode") mode_part)) (required_layer ron_fields (codes "scenes") (seen_layer (λ x. x.items) (list_layer line_style block_brackets itself_layer)))

abbrev pub scene_ron_layer : Layer ron ron_grammar Scene (SceneContent Scene)
scene_ron_layer = struct_layer scene_ron_fields (λ f. word_names refl) (λ f. refl)

pub scene_ron_means_opened : (y : Scene-F Scene)
    → scene_means_step (map-Scene Scene Meaning scene_means y)
    ≡ scene_ron_layer.means scene_means (scene_opened y)
scene_ron_means_opened y = refl

pub scene_ron_depth_opened : (y : Scene-F Scene)
    → scene_depth_step (map-Scene Scene ℕ scene_depth y)
    ≡ scene_ron_layer.deep scene_depth (scene_opened y)
scene_ron_depth_opened y = later_depth (list_depth _ _ _ (λ x. refl) y.scenes.items)

abbrev pub scene_ron_nested : Nested ron ron_grammar Scene
scene_ron_nested = record {
  Seen = SceneContent Scene;
  layer = scene_ron_layer;
  view = scene_view;
  means = scene_means;
  depth = scene_depth;
  means_is = λ x. fold_out-Scene Meaning scene_means_step x ∙ scene_ron_means_opened (out-Scene x);
  depth_is = λ x. fold_out-Scene ℕ scene_depth_step x ∙ scene_ron_depth_opened (out-Scene x);
}

-- those of at most so many levels
abbrev pub scene_ron_at : ℕ → Codec Scene
scene_ron_at = level scene_ron_nested

pub scene_ron_agrees : Agrees scene_means scene_codec.encoding.legal scene_means
    (limited scene_ron_nested 128).encoding.legal
scene_ron_agrees =
    agree_through (bin_agrees scene_nested scene_step (λ f. refl))
    (nested_agrees scene_ron_nested scene_step (λ f. refl) 128)

-- those that are read, and what is legal in the words of the format before
abbrev pub scene_ron : Codec Scene
scene_ron = legal_as (limited scene_ron_nested 128) scene_ron_agrees
