-- Written by derive_files: what is proved of types that contain themselves.
use Rattle.std.specs.Prelude.{◌≡◌, ℕ, List, map, refl, codes, Box, String, Vec, string_bytes, string_cmp}
use Rattle.std.specs.BTreeMap.{BTreeMap}
use Rattle.std.specs.Global.{Global}
use Rattle.std.specs.Option.{option_map}
use Rattle.nano_value.specs.Meaning.{whole, text, optional, listed, paired}
use Rattle.nano_value.specs.Ordered.{ordered_map_means}
use Rattle.nano_meaning.proofs.OrderLaws.{texts}
use Rattle.nano_grammar.specs.FieldCodec.{WrittenField, fields_text}
use Rattle.nano_schema_levels.proofs.NestedLaws.{legal_seen, text_seen}
use Rattle.nano_json.specs.Codec.{codec_as}
use Rattle.nano_json.specs.ContainerCodecs.{list_codec, option_codec, ordered_map_codec}
use Rattle.nano_json_tokens.specs.Token.{Token}
use Rattle.nano_json_schema.specs.FieldCodecs.{json_fields, optional_field, required_field, u16_codec, string_codec}
use Rattle.test_nested.specs.declared.guide.Way.{Way}
use Rattle.test_nested.specs.GuideCodecs.{way_view, way_means}
use Rattle.test_nested.specs.GuideJsonCodecs.{way_around, way_json, way_json_fields}
use Rattle.test_nested.specs.declared.guide.Guide.TheViews.{out-Way}
use Rattle.test_nested.specs.declared.guide.Stop.{Stop}
use Rattle.test_nested.specs.GuideCodecs.{stop_view, stop_means}
use Rattle.test_nested.specs.GuideJsonCodecs.{stop_around, stop_json, stop_json_fields}
use Rattle.test_nested.specs.declared.guide.Guide.TheViews.{out-Stop}
use Rattle.test_nested.specs.declared.guide.Guide.{Guide}
use Rattle.test_nested.specs.GuideCodecs.{guide_view, guide_means}
use Rattle.test_nested.specs.GuideJsonCodecs.{guide_json_nested, guide_json, guide_json_fields}
use Rattle.test_nested.specs.declared.guide.Guide.TheViews.{out-Guide}

-- ==== Way

abbrev pub way_json_field_minutes : Way → List (WrittenField Token)
way_json_field_minutes x =
    (required_field (codes "minutes") u16_codec).canonical.fields (out-Way x).minutes

abbrev pub way_json_field_guide : Way → List (WrittenField Token)
way_json_field_guide x =
    (required_field (codes "guide") (codec_as (λ (x : Box Guide Global). x.value) guide_json)).canonical.fields (out-Way x).guide

abbrev pub way_json_written : Way → List (WrittenField Token)
way_json_written x =
    (way_json_fields.codec guide_json).canonical.fields (way_view x)

pub way_json_text : (d : ℕ) → (x : Way) → way_json.canonical.text d x
    ≡ fields_text json_fields d (way_json_written x)
way_json_text d x = refl

pub way_legal : (x : Way)
    → u16_codec.encoding.legal (whole (out-Way x).minutes)
    → (codec_as (λ (x : Box Guide Global). x.value) guide_json).encoding.legal (guide_means (out-Way x).guide.value)
    → way_json.encoding.legal (way_means x)
way_legal x h0 h1 =
    (record { part = (whole (out-Way x).minutes, guide_means (out-Way x).guide.value); has = (h0, h1); is = refl })

-- ==== Stop

abbrev pub stop_json_field_ways : Stop → List (WrittenField Token)
stop_json_field_ways x =
    (required_field (codes "ways") (codec_as (λ (x : BTreeMap (String Global) Way). x.entries) (ordered_map_codec texts string_cmp string_codec (way_around.codec guide_json)))).canonical.fields (out-Stop x).ways

abbrev pub stop_json_field_best : Stop → List (WrittenField Token)
stop_json_field_best x =
    (optional_field (codes "best") (way_around.codec guide_json)).canonical.fields (out-Stop x).best

abbrev pub stop_json_written : Stop → List (WrittenField Token)
stop_json_written x =
    (stop_json_fields.codec guide_json).canonical.fields (stop_view x)

pub stop_json_text : (d : ℕ) → (x : Stop) → stop_json.canonical.text d x
    ≡ fields_text json_fields d (stop_json_written x)
stop_json_text d x = refl

pub stop_legal : (x : Stop)
    → (codec_as (λ (x : BTreeMap (String Global) Way). x.entries) (ordered_map_codec texts string_cmp string_codec (way_around.codec guide_json))).encoding.legal (ordered_map_means string_cmp (λ x. text (string_bytes x)) way_means (out-Stop x).ways.entries)
    → (option_codec (way_around.codec guide_json)).encoding.legal (optional (option_map way_means (out-Stop x).best))
    → stop_json.encoding.legal (stop_means x)
stop_legal x h0 h1 =
    (record { part = (ordered_map_means string_cmp (λ x. text (string_bytes x)) way_means (out-Stop x).ways.entries, optional (option_map way_means (out-Stop x).best)); has = (h0, h1); is = refl })

-- ==== Guide

abbrev pub guide_json_field_name : Guide → List (WrittenField Token)
guide_json_field_name x =
    (required_field (codes "name") string_codec).canonical.fields (out-Guide x).name

abbrev pub guide_json_field_stops : Guide → List (WrittenField Token)
guide_json_field_stops x =
    (required_field (codes "stops") (codec_as (λ (x : Vec Stop Global). x.items) (list_codec (stop_around.codec guide_json)))).canonical.fields (out-Guide x).stops

abbrev pub guide_json_field_next : Guide → List (WrittenField Token)
guide_json_field_next x =
    (optional_field (codes "next") (codec_as (λ (x : Box Guide Global). x.value) guide_json)).canonical.fields (out-Guide x).next

abbrev pub guide_json_written : Guide → List (WrittenField Token)
guide_json_written x =
    (guide_json_fields.codec guide_json).canonical.fields (guide_view x)

pub guide_json_text : (d : ℕ) → (x : Guide) → guide_json.canonical.text d x
    ≡ fields_text json_fields d (guide_json_written x)
guide_json_text d x = text_seen guide_json_nested 64 d x (guide_view x) refl

pub guide_legal : (x : Guide)
    → string_codec.encoding.legal (text (string_bytes (out-Guide x).name))
    → (codec_as (λ (x : Vec Stop Global). x.items) (list_codec (stop_around.codec guide_json))).encoding.legal (listed (map stop_means (out-Guide x).stops.items))
    → (option_codec (codec_as (λ (x : Box Guide Global). x.value) guide_json)).encoding.legal (optional (option_map (λ x. guide_means x.value) (out-Guide x).next))
    → guide_json.encoding.legal (guide_means x)
guide_legal x h0 h1 h2 =
    legal_seen guide_json_nested 64 x (guide_view x) refl
    (record { part = (text (string_bytes (out-Guide x).name), paired (listed (map stop_means (out-Guide x).stops.items), optional (option_map (λ x. guide_means x.value) (out-Guide x).next))); has = (h0, (record { part = (listed (map stop_means (out-Guide x).stops.items), optional (option_map (λ x. guide_means x.value) (out-Guide x).next)); has = (h1, h2); is = refl })); is = refl })
