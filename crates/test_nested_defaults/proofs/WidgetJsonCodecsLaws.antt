-- Written by derive_files: what is proved of types that contain themselves.
use Rattle.std.specs.Prelude.{◌≡◌, ℕ, List, refl, codes, String, Vec, string_cmp}
use Rattle.std.specs.BTreeMap.{BTreeMap}
use Rattle.std.specs.Global.{Global}
use Rattle.nano_meaning.proofs.OrderLaws.{texts}
use Rattle.nano_grammar.specs.FieldCodec.{WrittenField, fields_text}
use Rattle.nano_schema_levels.proofs.NestedLaws.{text_seen}
use Rattle.nano_json.specs.Codec.{codec_as}
use Rattle.nano_json.specs.ScalarCodecs.{boolean_codec}
use Rattle.nano_json.specs.ContainerCodecs.{list_codec, ordered_map_codec}
use Rattle.nano_json_tokens.specs.Token.{Token}
use Rattle.nano_json_schema.specs.FieldCodecs.{json_fields, required_field, u16_codec, i32_codec, string_codec}
use Rattle.test_nested_defaults.specs.declared.widget.Widget.{Widget}
use Rattle.test_nested_defaults.specs.WidgetCodecs.{widget_view}
use Rattle.test_nested_defaults.specs.WidgetJsonCodecs.{widget_json_nested, widget_json, widget_json_fields}
use Rattle.test_nested_defaults.specs.declared.widget.Widget.TheViews.{out-Widget}

-- ==== Widget

abbrev pub widget_json_field_title : Widget → List (WrittenField Token)
widget_json_field_title x =
    (required_field (codes "title") string_codec).canonical.fields (out-Widget x).title

abbrev pub widget_json_field_shortcut : Widget → List (WrittenField Token)
widget_json_field_shortcut x =
    (required_field (codes "shortcut") string_codec).canonical.fields (out-Widget x).shortcut

abbrev pub widget_json_field_width : Widget → List (WrittenField Token)
widget_json_field_width x =
    (required_field (codes "width") u16_codec).canonical.fields (out-Widget x).width

abbrev pub widget_json_field_row : Widget → List (WrittenField Token)
widget_json_field_row x =
    (required_field (codes "row") i32_codec).canonical.fields (out-Widget x).row

abbrev pub widget_json_field_is_open : Widget → List (WrittenField Token)
widget_json_field_is_open x =
    (required_field (codes "is_open") boolean_codec).canonical.fields (out-Widget x).is_open

abbrev pub widget_json_field_entries : Widget → List (WrittenField Token)
widget_json_field_entries x =
    (required_field (codes "entries") (codec_as (λ (x : Vec Widget Global). x.items) (list_codec widget_json))).canonical.fields (out-Widget x).entries

abbrev pub widget_json_field_others : Widget → List (WrittenField Token)
widget_json_field_others x =
    (required_field (codes "others") (codec_as (λ (x : BTreeMap (String Global) Widget). x.entries) (ordered_map_codec texts string_cmp string_codec widget_json))).canonical.fields (out-Widget x).others

abbrev pub widget_json_written : Widget → List (WrittenField Token)
widget_json_written x =
    (widget_json_fields.codec widget_json).canonical.fields (widget_view x)

pub widget_json_text : (d : ℕ) → (x : Widget) → widget_json.canonical.text d x
    ≡ fields_text json_fields d (widget_json_written x)
widget_json_text d x = text_seen widget_json_nested 128 d x (widget_view x) refl
