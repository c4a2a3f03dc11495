-- Written by derive_files: what is proved of types that contain themselves.
use Rattle.std.specs.Prelude.{◌≡◌, ℕ, List, refl, codes, Vec}
use Rattle.std.specs.Global.{Global}
use Rattle.nano_grammar.specs.FieldCodec.{WrittenField, fields_text}
use Rattle.nano_schema_levels.proofs.NestedLaws.{text_seen}
use Rattle.nano_json.specs.Codec.{codec_as}
use Rattle.nano_json.specs.ContainerCodecs.{list_codec}
use Rattle.nano_json_tokens.specs.Token.{Token}
use Rattle.nano_json_schema.specs.FieldCodecs.{json_fields, required_field}
use Rattle.test_nested_parts.specs.declared.scene.Scene.{Scene}
use Rattle.test_nested_parts.specs.SceneCodecs.{scene_view}
use Rattle.test_nested_parts.specs.SceneJsonCodecs.{scene_json_nested, scene_json, scene_json_fields}
use Rattle.test_nested_parts.specs.declared.scene.Scene.TheViews.{out-Scene}
use Rattle.test_nested_parts.specs.SceneJsonCodecs.{mode_part}

-- ==== Scene

abbrev pub scene_json_field_mode : Scene → List (WrittenField Token)
scene_json_field_mode x =
    (required_field (codes "mode") mode_part).canonical.fields (out-Scene x).mode

abbrev pub scene_json_field_scenes : Scene → List (WrittenField Token)
scene_json_field_scenes x =
    (required_field (codes "scenes") (codec_as (λ (x : Vec Scene Global). x.items) (list_codec scene_json))).canonical.fields (out-Scene x).scenes

abbrev pub scene_json_written : Scene → List (WrittenField Token)
scene_json_written x =
    (scene_json_fields.codec scene_json).canonical.fields (scene_view x)

pub scene_json_text : (d : ℕ) → (x : Scene) → scene_json.canonical.text d x
    ≡ fields_text json_fields d (scene_json_written x)
scene_json_text d x = text_seen scene_json_nested 128 d x (scene_view x) refl
