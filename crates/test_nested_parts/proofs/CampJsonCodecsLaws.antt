-- Written by derive_files: what is proved of types that contain themselves.
use Rattle.std.specs.Prelude.{◌≡◌, ℕ, List, refl, codes, Box, Vec}
use Rattle.std.specs.Global.{Global}
use Rattle.nano_schema.specs.declared.choices.Either.TheVariants.{First, Later}
use Rattle.nano_grammar.specs.FieldCodec.{WrittenField, fields_text}
use Rattle.nano_schema_levels.proofs.NestedLaws.{text_seen}
use Rattle.nano_json.specs.Codec.{codec_as}
use Rattle.nano_json.specs.ContainerCodecs.{list_codec}
use Rattle.nano_json_tokens.specs.Token.{Token}
use Rattle.nano_json_tokens.specs.Written.{written_text}
use Rattle.nano_json_schema.specs.FieldCodecs.{json_fields, required_field}
use Rattle.nano_json_schema.specs.Variants.{content_text}
use Rattle.test_nested_parts.specs.declared.camp.Camp.{Camp}
use Rattle.test_nested_parts.specs.CampCodecs.{camp_view}
use Rattle.test_nested_parts.specs.CampJsonCodecs.{camp_json_nested, camp_json, camp_json_fields}
use Rattle.test_nested_parts.specs.declared.camp.Camp.TheViews.{out-Camp}
use Rattle.test_nested_parts.specs.CampJsonCodecs.{weather_part}
use Rattle.test_nested_parts.specs.declared.camp.Route.{Route}
use Rattle.test_nested_parts.specs.CampCodecs.{route_view}
use Rattle.test_nested_parts.specs.CampJsonCodecs.{route_json_nested, route_json, route_json_content_step}
use Rattle.test_nested_parts.proofs.CampCodecsLaws.{route_view_end, route_view_step}
use Rattle.test_nested_parts.specs.declared.camp.Route.{End as Route-End}
use Rattle.test_nested_parts.specs.declared.camp.Route.{Step as Route-Step}
use Rattle.test_nested_parts.specs.declared.camp.Weather.{Weather}

-- ==== Camp

abbrev pub camp_json_field_weather : Camp → List (WrittenField Token)
camp_json_field_weather x =
    (required_field (codes "weather") weather_part).canonical.fields (out-Camp x).weather

abbrev pub camp_json_field_camps : Camp → List (WrittenField Token)
camp_json_field_camps x =
    (required_field (codes "camps") (codec_as (λ (x : Vec Camp Global). x.items) (list_codec camp_json))).canonical.fields (out-Camp x).camps

abbrev pub camp_json_written : Camp → List (WrittenField Token)
camp_json_written x =
    (camp_json_fields.codec camp_json).canonical.fields (camp_view x)

pub camp_json_text : (d : ℕ) → (x : Camp) → camp_json.canonical.text d x
    ≡ fields_text json_fields d (camp_json_written x)
camp_json_text d x = text_seen camp_json_nested 128 d x (camp_view x) refl

-- ==== Route

pub route_json_text_end : (d : ℕ)
    → route_json.canonical.text d Route-End
    ≡ written_text (codes "End")
route_json_text_end d =
    text_seen route_json_nested 128 d Route-End (First (tt {0})) route_view_end

abbrev pub route_json_field_step_weather : Weather → List (WrittenField Token)
route_json_field_step_weather x =
    (required_field (codes "weather") weather_part).canonical.fields x

abbrev pub route_json_field_step_rest : Box Route Global → List (WrittenField Token)
route_json_field_step_rest x =
    (required_field (codes "rest") (codec_as (λ (x : Box Route Global). x.value) route_json)).canonical.fields x

pub route_json_text_step : (d : ℕ)
    → (v0 : Weather)
    → (v1 : Box Route Global)
    → route_json.canonical.text d (Route-Step v0 v1)
    ≡ content_text (codes "Step") ((route_json_content_step.codec route_json).canonical.text d (v0, v1))
route_json_text_step d v0 v1 =
    text_seen route_json_nested 128 d (Route-Step v0 v1) (Later (v0, v1)) (route_view_step v0 v1)

pub ruleset route_json_texts = (route_json_text_end, route_json_text_step)
