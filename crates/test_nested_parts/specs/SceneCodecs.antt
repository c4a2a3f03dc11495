-- Written by derive_files: types that contain themselves, and their codecs.
use Rattle.std.specs.Prelude.{◌≡◌, ℕ, suc, map, refl, Vec}
use Rattle.std.specs.Global.{Global}
use Rattle.std.proofs.Common.{◌∙◌}
use Rattle.nano_value.specs.Meaning.{Meaning, listed, paired, LegalList, LegalPair}
use Rattle.nano_levels.specs.Layers.{greatest}
use Rattle.nano_schema_levels.specs.LegalLevels.{LegalStep}
use Rattle.nano_schema_levels.proofs.StepsLaws.{list_depth}
use Rattle.nano_bin_bytes.specs.Codec.{Codec}
use Rattle.nano_bin_levels.specs.Layers.{Layer, Nested}
use Rattle.nano_bin_levels.proofs.LayersLaws.{itself_layer, next_layer, seen_layer}
use Rattle.nano_bin_levels.proofs.ListsLaws.{list_layer}
use Rattle.nano_bin_levels.proofs.LevelsLaws.{nested_codec}
use Rattle.test_nested_parts.specs.contracts.mode.derived.ModeBinCodec.TheImpl.{ghosts as mode_bin}
use Rattle.test_nested_parts.specs.declared.scene.Scene.{Scene}
use Rattle.test_nested_parts.specs.declared.scene.Scene.TheOpen.{Scene-F}
use Rattle.test_nested_parts.specs.declared.scene.Scene.TheViews.{out-Scene}
use Rattle.test_nested_parts.specs.declared.scene.Scene.TheFolds.{map-Scene, fold-Scene, fold_out-Scene}
use Rattle.test_nested_parts.specs.declared.mode.Mode.{Mode}
use Rattle.test_nested_parts.specs.contracts.mode.derived.ModeValue.TheImpl.{ghosts as mode_value}

-- the codec of `Mode`
abbrev pub mode_part : Codec Mode
mode_part = mode_bin.bin

-- ==== Scene: what a value is seen as

abbrev pub SceneContent : Type 0 → Type 0
SceneContent X = Mode × Vec X Global

abbrev pub scene_opened : {X : Type 0} → Scene-F X → SceneContent X
scene_opened y = (y.mode, y.scenes)

abbrev pub scene_view : Scene → SceneContent Scene
scene_view x = scene_opened (out-Scene x)

-- ---- what it means, and how deep it is

abbrev pub scene_means_step : Scene-F Meaning → Meaning
scene_means_step y = paired (mode_value.means y.mode, listed y.scenes.items)

abbrev pub scene_means : Scene → Meaning
scene_means = fold-Scene Meaning scene_means_step

abbrev pub scene_depth_step : Scene-F ℕ → ℕ
scene_depth_step y = greatest (map (λ x. suc x) y.scenes.items)

abbrev pub scene_depth : Scene → ℕ
scene_depth = fold-Scene ℕ scene_depth_step

-- ---- which meanings are legal, given those that are of the values in it

abbrev pub scene_step : LegalStep
scene_step P = LegalPair mode_value.legal (LegalList P)

-- ---- as bytes: the layer around the values in it, and the codec

abbrev pub scene_layer : Layer Scene (SceneContent Scene)
scene_layer = next_layer mode_part (seen_layer (λ x. x.items) (list_layer itself_layer))

pub scene_means_opened : (y : Scene-F Scene)
    → scene_means_step (map-Scene Scene Meaning scene_means y)
    ≡ scene_layer.means scene_means (scene_opened y)
scene_means_opened y = refl

pub scene_depth_opened : (y : Scene-F Scene)
    → scene_depth_step (map-Scene Scene ℕ scene_depth y)
    ≡ scene_layer.deep scene_depth (scene_opened y)
scene_depth_opened y = list_depth _ _ _ (λ x. refl) y.scenes.items

abbrev pub scene_nested : Nested Scene
scene_nested = record {
  Seen = SceneContent Scene;
  layer = scene_layer;
  view = scene_view;
  means = scene_means;
  depth = scene_depth;
  means_is = λ x. fold_out-Scene Meaning scene_means_step x ∙ scene_means_opened (out-Scene x);
  depth_is = λ x. fold_out-Scene ℕ scene_depth_step x ∙ scene_depth_opened (out-Scene x);
}

abbrev pub scene_codec : Codec Scene
scene_codec = nested_codec scene_nested
