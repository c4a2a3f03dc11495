-- Written by derive_files: what is proved of types that contain themselves.
use Rattle.std.specs.Prelude.{◌≡◌, ℕ, List, refl, codes, String, string_cmp}
use Rattle.std.specs.BTreeMap.{BTreeMap}
use Rattle.std.specs.Global.{Global}
use Rattle.nano_meaning.proofs.OrderLaws.{texts}
use Rattle.nano_grammar.specs.FieldCodec.{WrittenField, fields_text}
use Rattle.nano_schema_levels.proofs.NestedLaws.{text_seen}
use Rattle.nano_ron.specs.Codec.{codec_as}
use Rattle.nano_ron.specs.ContainerCodecs.{ordered_map_codec}
use Rattle.nano_ron_tokens.specs.Token.{Token}
use Rattle.nano_ron_schema.specs.FieldCodecs.{required_field, ron_fields}
use Rattle.nano_ron_nested.specs.TypeCodecs.{string_codec}
use Rattle.test_nested_derived_ron.specs.declared.menu.Menu.{Menu}
use Rattle.test_nested_derived_ron.specs.MenuCodecs.{menu_view}
use Rattle.test_nested_derived_ron.specs.MenuRonCodecs.{menu_ron_nested, menu_ron, menu_ron_fields}
use Rattle.test_nested_derived_ron.specs.declared.menu.Menu.TheViews.{out-Menu}

-- ==== Menu

abbrev pub menu_ron_field_title : Menu → List (WrittenField Token)
menu_ron_field_title x =
    (required_field (codes "title") string_codec).canonical.fields (out-Menu x).title

abbrev pub menu_ron_field_entries : Menu → List (WrittenField Token)
menu_ron_field_entries x =
    (required_field (codes "entries") (codec_as (λ (x : BTreeMap (String Global) Menu). x.entries) (ordered_map_codec texts string_cmp string_codec menu_ron))).canonical.fields (out-Menu x).entries

abbrev pub menu_ron_written : Menu → List (WrittenField Token)
menu_ron_written x =
    (menu_ron_fields.codec menu_ron).canonical.fields (menu_view x)

pub menu_ron_text : (d : ℕ) → (x : Menu) → menu_ron.canonical.text d x
    ≡ fields_text ron_fields d (menu_ron_written x)
menu_ron_text d x = text_seen menu_ron_nested 128 d x (menu_view x) refl
