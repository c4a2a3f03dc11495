-- Written by derive_files: what is proved of types that contain themselves.
use Rattle.std.specs.Prelude.{◌≡◌, ℕ, List, refl, codes, Vec}
use Rattle.std.specs.Global.{Global}
use Rattle.nano_grammar.specs.FieldCodec.{WrittenField, fields_text}
use Rattle.nano_schema_levels.proofs.NestedLaws.{text_seen}
use Rattle.nano_ron.specs.Codec.{codec_as}
use Rattle.nano_ron_tokens.specs.Token.{Token}
use Rattle.nano_ron_schema.specs.FieldCodecs.{required_field, ron_fields}
use Rattle.nano_ron_nested.specs.TypeCodecs.{list_codec, string_codec}
use Rattle.test_nested_derived.specs.declared.folder.Folder.{Folder}
use Rattle.test_nested_derived.specs.FolderCodecs.{folder_view}
use Rattle.test_nested_derived.specs.FolderRonCodecs.{folder_ron_nested, folder_ron, folder_ron_fields}
use Rattle.test_nested_derived.specs.declared.folder.Folder.TheViews.{out-Folder}

-- ==== Folder

abbrev pub folder_ron_field_name : Folder → List (WrittenField Token)
folder_ron_field_name x =
    (required_field (codes "name") string_codec).canonical.fields (out-Folder x).name

abbrev pub folder_ron_field_folders : Folder → List (WrittenField Token)
folder_ron_field_folders x =
    (required_field (codes "folders") (codec_as (λ (x : Vec Folder Global). x.items) (list_codec folder_ron))).canonical.fields (out-Folder x).folders

abbrev pub folder_ron_written : Folder → List (WrittenField Token)
folder_ron_written x =
    (folder_ron_fields.codec folder_ron).canonical.fields (folder_view x)

pub folder_ron_text : (d : ℕ) → (x : Folder) → folder_ron.canonical.text d x
    ≡ fields_text ron_fields d (folder_ron_written x)
folder_ron_text d x = text_seen folder_ron_nested 128 d x (folder_view x) refl
