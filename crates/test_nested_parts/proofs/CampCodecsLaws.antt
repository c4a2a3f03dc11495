-- Written by derive_files: what is proved of types that contain themselves.
use Rattle.std.specs.Prelude.{◌≡◌, ◌++◌, map, refl, Box, Vec}
use Rattle.std.specs.Global.{Global}
use Rattle.std.proofs.Common.{append_assoc, inl, inr, rules}
use Rattle.nano_value.specs.Meaning.{nothing, listed, paired}
use Rattle.nano_schema.specs.declared.choices.Either.TheVariants.{First, Later}
use Rattle.nano_bin_bytes.specs.BaseCodecs.{codec_as}
use Rattle.nano_bin_bytes.specs.Scalars.{little_endian}
use Rattle.nano_bin.specs.ScalarCodecs.{unit_codec}
use Rattle.nano_bin.specs.ContainerCodecs.{list_codec}
use Rattle.nano_bin_nested.proofs.NestedLaws.{seen_legal, written_seen}
use Rattle.test_nested_parts.specs.declared.camp.Camp.{Camp}
use Rattle.test_nested_parts.specs.CampCodecs.{camp_view, camp_means, camp_nested, camp_codec}
use Rattle.test_nested_parts.specs.declared.camp.Camp.TheViews.{out-Camp}
use Rattle.test_nested_parts.specs.contracts.camp.derived.WeatherValue.TheImpl.{ghosts as weather_value}
use Rattle.test_nested_parts.specs.CampCodecs.{weather_part}
use Rattle.test_nested_parts.specs.declared.camp.Route.{Route}
use Rattle.test_nested_parts.specs.CampCodecs.{route_view, route_means, route_nested, route_codec}
use Rattle.test_nested_parts.specs.declared.camp.Route.{the_lemmas}
use Rattle.test_nested_parts.specs.declared.camp.Route.{End as Route-End}
use Rattle.test_nested_parts.specs.declared.camp.Route.{Step as Route-Step}
use Rattle.test_nested_parts.specs.declared.camp.Weather.{Weather}

-- ==== Camp

pub camp_written : (x : Camp)
    → camp_codec.canonical.written x
    ≡ (weather_part.canonical.written (out-Camp x).weather
    ++ (codec_as (λ (x : Vec Camp Global). x.items) (list_codec camp_codec)).canonical.written (out-Camp x).camps)
camp_written x = written_seen camp_nested x (camp_view x) refl

pub camp_legal : (x : Camp)
    → weather_part.encoding.legal (weather_value.means (out-Camp x).weather)
    → (codec_as (λ (x : Vec Camp Global). x.items) (list_codec camp_codec)).encoding.legal (listed (map camp_means (out-Camp x).camps.items))
    → camp_codec.encoding.legal (camp_means x)
camp_legal x h0 h1 =
    seen_legal camp_nested x (camp_view x) refl
    (record { part = (weather_value.means (out-Camp x).weather, listed (map camp_means (out-Camp x).camps.items)); has = (h0, h1); is = refl })

pub ruleset camp_written_laws = (append_assoc, camp_written)

-- ==== Route

pub route_view_end : route_view Route-End ≡ First (tt {0})
route_view_end = search (rules, the_lemmas)

pub route_written_end : route_codec.canonical.written Route-End
    ≡ little_endian 2 0
    ++ unit_codec.canonical.written (tt {0})
route_written_end =
    written_seen route_nested Route-End (First (tt {0})) route_view_end

pub route_legal_end : route_codec.encoding.legal (route_means Route-End)
route_legal_end =
    seen_legal route_nested Route-End (First (tt {0})) route_view_end
    (inl (record { part = nothing; has = refl; is = refl }))

pub route_view_step : (v0 : Weather)
    → (v1 : Box Route Global)
    → route_view (Route-Step v0 v1) ≡ Later (v0, v1)
route_view_step v0 v1 = search (rules, the_lemmas)

pub route_written_step : (v0 : Weather)
    → (v1 : Box Route Global)
    → route_codec.canonical.written (Route-Step v0 v1)
    ≡ little_endian 2 1
    ++ (weather_part.canonical.written v0
    ++ (codec_as (λ (x : Box Route Global). x.value) route_codec).canonical.written v1)
route_written_step v0 v1 =
    written_seen route_nested (Route-Step v0 v1) (Later (v0, v1)) (route_view_step v0 v1)

pub route_legal_step : (v0 : Weather)
    → (v1 : Box Route Global)
    → weather_part.encoding.legal (weather_value.means v0)
    → (codec_as (λ (x : Box Route Global). x.value) route_codec).encoding.legal (route_means v1.value)
    → route_codec.encoding.legal (route_means (Route-Step v0 v1))
route_legal_step v0 v1 h0 h1 =
    seen_legal route_nested (Route-Step v0 v1) (Later (v0, v1)) (route_view_step v0 v1)
    (inr (inl (record { part = paired (weather_value.means v0, route_means v1.value); has = (record { part = (weather_value.means v0, route_means v1.value); has = (h0, h1); is = refl }); is = refl })))

pub ruleset route_views = (route_view_end, route_view_step)

pub ruleset route_written_laws = (append_assoc, route_written_end, route_written_step)
