-- Written by derive_files: what is proved of types that contain themselves.
use Rattle.std.specs.Prelude.{◌≡◌, ℕ, List, refl, codes, Vec}
use Rattle.std.specs.Global.{Global}
use Rattle.nano_grammar.specs.FieldCodec.{WrittenField, fields_text}
use Rattle.nano_schema_levels.proofs.NestedLaws.{text_seen}
use Rattle.nano_json.specs.Codec.{codec_as}
use Rattle.nano_json.specs.ContainerCodecs.{list_codec}
use Rattle.nano_json_tokens.specs.Token.{Token}
use Rattle.nano_json_schema.specs.FieldCodecs.{json_fields, required_field, string_codec}
use Rattle.test_nested_derived.specs.declared.folder.Folder.{Folder}
use Rattle.test_nested_derived.specs.FolderCodecs.{folder_view}
use Rattle.test_nested_derived.specs.FolderJsonCodecs.{folder_json_nested, folder_json, folder_json_fields}
use Rattle.test_nested_derived.specs.declared.folder.Folder.TheViews.{out-Folder}

-- ==== Folder

abbrev pub folder_json_field_name : Folder → List (WrittenField Token)
folder_json_field_name x =
    (required_field (codes "name") string_codec).canonical.fields (out-Folder x).name

abbrev pub folder_json_field_folders : Folder → List (WrittenField Token)
folder_json_field_folders x =
    (required_field (codes "folders") (codec_as (λ (x : Vec Folder Global). x.items) (list_codec folder_json))).canonical.fields (out-Folder x).folders

abbrev pub folder_json_written : Folder → List (WrittenField Token)
folder_json_written x =
    (folder_json_fields.codec folder_json).canonical.fields (folder_view x)

pub folder_json_text : (d : ℕ) → (x : Folder) → folder_json.canonical.text d x
    ≡ fields_text json_fields d (folder_json_written x)
folder_json_text d x = text_seen folder_json_nested 128 d x (folder_view x) refl
