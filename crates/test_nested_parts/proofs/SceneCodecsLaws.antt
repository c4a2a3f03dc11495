-- Written by derive_files: what is proved of types that contain themselves.
use Rattle.std.specs.Prelude.{◌≡◌, ◌++◌, map, refl, Vec}
use Rattle.std.specs.Global.{Global}
use Rattle.std.proofs.Common.{append_assoc}
use Rattle.nano_value.specs.Meaning.{listed}
use Rattle.nano_bin_bytes.specs.BaseCodecs.{codec_as}
use Rattle.nano_bin.specs.ContainerCodecs.{list_codec}
use Rattle.nano_bin_nested.proofs.NestedLaws.{seen_legal, written_seen}
use Rattle.test_nested_parts.specs.declared.scene.Scene.{Scene}
use Rattle.test_nested_parts.specs.SceneCodecs.{scene_view, scene_means, scene_nested, scene_codec}
use Rattle.test_nested_parts.specs.declared.scene.Scene.TheViews.{out-Scene}
use Rattle.test_nested_parts.specs.contracts.mode.derived.ModeValue.TheImpl.{ghosts as mode_value}
use Rattle.test_nested_parts.specs.SceneCodecs.{mode_part}

-- ==== Scene

pub scene_written : (x : Scene)
    → scene_codec.canonical.written x
    ≡ (mode_part.canonical.written (out-Scene x).mode
    ++ (codec_as (λ (x : Vec Scene Global). x.items) (list_codec scene_codec)).canonical.written (out-Scene x).scenes)
scene_written x = written_seen scene_nested x (scene_view x) refl

pub scene_legal : (x : Scene)
    → mode_part.encoding.legal (mode_value.means (out-Scene x).mode)
    → (codec_as (λ (x : Vec Scene Global). x.items) (list_codec scene_codec)).encoding.legal (listed (map scene_means (out-Scene x).scenes.items))
    → scene_codec.encoding.legal (scene_means x)
scene_legal x h0 h1 =
    seen_legal scene_nested x (scene_view x) refl
    (record { part = (mode_value.means (out-Scene x).mode, listed (map scene_means (out-Scene x).scenes.items)); has = (h0, h1); is = refl })

pub ruleset scene_written_laws = (append_assoc, scene_written)
