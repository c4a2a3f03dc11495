-- Written by derive_files: what is proved of types that contain themselves.
use Rattle.std.specs.Prelude.{◌≡◌, ℕ, List, refl, codes, Vec}
use Rattle.std.specs.Global.{Global}
use Rattle.nano_grammar.specs.FieldCodec.{WrittenField, fields_text}
use Rattle.nano_schema_levels.proofs.NestedLaws.{text_seen}
use Rattle.nano_ron.specs.Codec.{codec_as}
use Rattle.nano_ron_tokens.specs.Token.{Token}
use Rattle.nano_ron_schema.specs.FieldCodecs.{required_field, ron_fields}
use Rattle.nano_ron_nested.specs.TypeCodecs.{list_codec}
use Rattle.test_nested_parts.specs.declared.scene.Scene.{Scene}
use Rattle.test_nested_parts.specs.SceneCodecs.{scene_view}
use Rattle.test_nested_parts.specs.SceneRonCodecs.{scene_ron_nested, scene_ron, scene_ron_fields}
use Rattle.test_nested_parts.specs.declared.scene.Scene.TheViews.{out-Scene}
use Rattle.test_nested_parts.specs.SceneRonCodecs.{mode_part}

-- ==== Scene

abbrev pub scene_ron_field_mode : Scene → List (WrittenField Token)
scene_ron_field_mode x =
    (required_field (codes "mode") mode_part).canonical.fields (out-Scene x).mode

abbrev pub scene_ron_field_scenes : Scene → List (WrittenField Token)
scene_ron_field_scenes x =
    (required_field (codes "scenes") (codec_as (λ (x : Vec Scene Global). x.items) (list_codec scene_ron))).canonical.fields (out-Scene x).scenes

abbrev pub scene_ron_written : Scene → List (WrittenField Token)
scene_ron_written x =
    (scene_ron_fields.codec scene_ron).canonical.fields (scene_view x)

pub scene_ron_text : (d : ℕ) → (x : Scene) → scene_ron.canonical.text d x
    ≡ fields_text ron_fields d (scene_ron_written x)
scene_ron_text d x = text_seen scene_ron_nested 128 d x (scene_view x) refl
