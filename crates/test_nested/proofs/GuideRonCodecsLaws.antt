-- Written by derive_files: what is proved of types that contain themselves.
use Rattle.std.specs.Prelude.{◌≡◌, ℕ, List, refl, codes, Box, String, Vec, string_cmp}
use Rattle.std.specs.BTreeMap.{BTreeMap}
use Rattle.std.specs.Global.{Global}
use Rattle.nano_meaning.proofs.OrderLaws.{texts}
use Rattle.nano_grammar.specs.FieldCodec.{WrittenField, fields_text}
use Rattle.nano_schema_levels.proofs.NestedLaws.{text_seen}
use Rattle.nano_ron.specs.Codec.{codec_as}
use Rattle.nano_ron.specs.ContainerCodecs.{ordered_map_codec}
use Rattle.nano_ron_tokens.specs.Token.{Token}
use Rattle.nano_ron_schema.specs.FieldCodecs.{optional_field, required_field, ron_fields}
use Rattle.nano_ron_nested.specs.TypeCodecs.{list_codec, u16_codec, string_codec}
use Rattle.test_nested.specs.declared.guide.Way.{Way}
use Rattle.test_nested.specs.GuideCodecs.{way_view}
use Rattle.test_nested.specs.GuideRonCodecs.{way_around, way_ron, way_ron_fields}
use Rattle.test_nested.specs.declared.guide.Guide.TheViews.{out-Way}
use Rattle.test_nested.specs.declared.guide.Stop.{Stop}
use Rattle.test_nested.specs.GuideCodecs.{stop_view}
use Rattle.test_nested.specs.GuideRonCodecs.{stop_around, stop_ron, stop_ron_fields}
use Rattle.test_nested.specs.declared.guide.Guide.TheViews.{out-Stop}
use Rattle.test_nested.specs.declared.guide.Guide.{Guide}
use Rattle.test_nested.specs.GuideCodecs.{guide_view}
use Rattle.test_nested.specs.GuideRonCodecs.{guide_ron_nested, guide_ron, guide_ron_fields}
use Rattle.test_nested.specs.declared.guide.Guide.TheViews.{out-Guide}

-- ==== Way

abbrev pub way_ron_field_minutes : Way → List (WrittenField Token)
way_ron_field_minutes x =
    (required_field (codes "minutes") u16_codec).canonical.fields (out-Way x).minutes

abbrev pub way_ron_field_guide : Way → List (WrittenField Token)
way_ron_field_guide x =
    (required_field (codes "guide") (codec_as (λ (x : Box Guide Global). x.value) guide_ron)).canonical.fields (out-Way x).guide

abbrev pub way_ron_written : Way → List (WrittenField Token)
way_ron_written x =
    (way_ron_fields.codec guide_ron).canonical.fields (way_view x)

pub way_ron_text : (d : ℕ) → (x : Way) → way_ron.canonical.text d x
    ≡ fields_text ron_fields d (way_ron_written x)
way_ron_text d x = refl

-- ==== Stop

abbrev pub stop_ron_field_ways : Stop → List (WrittenField Token)
stop_ron_field_ways x =
    (required_field (codes "ways") (codec_as (λ (x : BTreeMap (String Global) Way). x.entries) (ordered_map_codec texts string_cmp string_codec (way_around.codec guide_ron)))).canonical.fields (out-Stop x).ways

abbrev pub stop_ron_field_best : Stop → List (WrittenField Token)
stop_ron_field_best x =
    (optional_field (codes "best") (way_around.codec guide_ron)).canonical.fields (out-Stop x).best

abbrev pub stop_ron_written : Stop → List (WrittenField Token)
stop_ron_written x =
    (stop_ron_fields.codec guide_ron).canonical.fields (stop_view x)

pub stop_ron_text : (d : ℕ) → (x : Stop) → stop_ron.canonical.text d x
    ≡ fields_text ron_fields d (stop_ron_written x)
stop_ron_text d x = refl

-- ==== Guide

abbrev pub guide_ron_field_name : Guide → List (WrittenField Token)
guide_ron_field_name x =
    (required_field (codes "name") string_codec).canonical.fields (out-Guide x).name

abbrev pub guide_ron_field_stops : Guide → List (WrittenField Token)
guide_ron_field_stops x =
    (required_field (codes "stops") (codec_as (λ (x : Vec Stop Global). x.items) (list_codec (stop_around.codec guide_ron)))).canonical.fields (out-Guide x).stops

abbrev pub guide_ron_field_next : Guide → List (WrittenField Token)
guide_ron_field_next x =
    (optional_field (codes "next") (codec_as (λ (x : Box Guide Global). x.value) guide_ron)).canonical.fields (out-Guide x).next

abbrev pub guide_ron_written : Guide → List (WrittenField Token)
guide_ron_written x =
    (guide_ron_fields.codec guide_ron).canonical.fields (guide_view x)

pub guide_ron_text : (d : ℕ) → (x : Guide) → guide_ron.canonical.text d x
    ≡ fields_text ron_fields d (guide_ron_written x)
guide_ron_text d x = text_seen guide_ron_nested 64 d x (guide_view x) refl
