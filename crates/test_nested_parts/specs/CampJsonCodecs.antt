-- Written by derive_files: types that contain themselves, and their codecs.
use Rattle.std.specs.Prelude.{◌≡◌, ℕ, refl, codes, Box}
use Rattle.std.specs.Global.{Global}
use Rattle.std.proofs.Common.{◌∙◌}
use Rattle.nano_value.specs.Meaning.{Meaning, Agrees}
use Rattle.nano_schema_levels.proofs.StepsLaws.{later_depth, list_depth}
use Rattle.nano_levels.specs.Layers.{Layer, Nested}
use Rattle.nano_levels.proofs.LayersLaws.{itself_layer, list_layer}
use Rattle.nano_levels.proofs.LevelsLaws.{level, limited}
use Rattle.nano_schema_levels.specs.FieldLayers.{FieldsLayer}
use Rattle.nano_schema_levels.specs.VariantLayers.{VariantsLayer}
use Rattle.nano_schema_levels.proofs.FieldLayersLaws.{fields_pair_layer, other_fields, required_layer, struct_layer}
use Rattle.nano_schema_levels.proofs.LegalLevelsLaws.{agree_through, legal_as, nested_agrees}
use Rattle.nano_schema_levels.proofs.PartLaws.{seen_layer}
use Rattle.nano_schema_levels.proofs.VariantLayersLaws.{choice_layer, last_variant, next_unit}
use Rattle.nano_bin_nested.proofs.LegalLaws.{nested_agrees as bin_agrees}
use Rattle.nano_json.specs.Codec.{Codec}
use Rattle.nano_json_tokens.specs.Cut.{json_grammar}
use Rattle.nano_json_tokens.proofs.JsonLaws.{json, block_brackets, block_style}
use Rattle.nano_json_schema.specs.FieldCodecs.{plain_names, json_fields, required_field}
use Rattle.nano_json_schema.specs.VariantCodecs.{json_variants}
use Rattle.test_nested_parts.specs.contracts.camp.derived.WeatherJsonCodec.TheImpl.{ghosts as weather_json}
use Rattle.test_nested_parts.specs.declared.camp.Camp.{Camp}
use Rattle.test_nested_parts.specs.declared.camp.Camp.TheOpen.{Camp-F}
use Rattle.test_nested_parts.specs.declared.camp.Camp.TheViews.{out-Camp}
use Rattle.test_nested_parts.specs.declared.camp.Camp.TheFolds.{map-Camp, fold_out-Camp}
use Rattle.test_nested_parts.specs.CampCodecs.{CampContent, camp_opened, camp_view, camp_means, camp_means_step}
use Rattle.test_nested_parts.specs.CampCodecs.{camp_depth, camp_depth_step}
use Rattle.test_nested_parts.specs.CampCodecs.{camp_step, camp_nested, camp_codec}
use Rattle.test_nested_parts.specs.declared.camp.Weather.{Weather}
use Rattle.test_nested_parts.specs.declared.camp.Route.{Route}
use Rattle.test_nested_parts.specs.declared.camp.Route.TheOpen.{Route-F}
use Rattle.test_nested_parts.specs.declared.camp.Route.TheViews.{out-Route}
use Rattle.test_nested_parts.specs.declared.camp.Route.TheFolds.{map-Route, fold_out-Route}
use Rattle.test_nested_parts.specs.CampCodecs.{RouteContent, route_opened, route_view, route_means, route_means_step}
use Rattle.test_nested_parts.specs.CampCodecs.{route_depth, route_depth_step}
use Rattle.test_nested_parts.specs.CampCodecs.{route_step, route_nested, route_codec}

-- the codec of `Weather`
abbrev pub weather_part : Codec Weather
weather_part = weather_json.json

-- ==== Camp: the layer around the values in it

abbrev pub camp_json_fields : FieldsLayer json_fields Camp (CampContent Camp)
camp_json_fields =
    fields_pair_layer (other_fields json_fields (required_field (codes "weather") weather_part)) (required_layer json_fields (codes "camps") (seen_layer (λ x. x.items) (list_layer block_style block_brackets itself_layer)))

abbrev pub camp_json_layer : Layer json json_grammar Camp (CampContent Camp)
camp_json_layer = struct_layer camp_json_fields (λ f. plain_names refl) (λ f. refl)

pub camp_json_means_opened : (y : Camp-F Camp)
    → camp_means_step (map-Camp Camp Meaning camp_means y)
    ≡ camp_json_layer.means camp_means (camp_opened y)
camp_json_means_opened y = refl

pub camp_json_depth_opened : (y : Camp-F Camp)
    → camp_depth_step (map-Camp Camp ℕ camp_depth y)
    ≡ camp_json_layer.deep camp_depth (camp_opened y)
camp_json_depth_opened y = later_depth (list_depth _ _ _ (λ x. refl) y.camps.items)

abbrev pub camp_json_nested : Nested json json_grammar Camp
camp_json_nested = record {
  Seen = CampContent Camp;
  layer = camp_json_layer;
  view = camp_view;
  means = camp_means;
  depth = camp_depth;
  means_is = λ x. fold_out-Camp Meaning camp_means_step x ∙ camp_json_means_opened (out-Camp x);
  depth_is = λ x. fold_out-Camp ℕ camp_depth_step x ∙ camp_json_depth_opened (out-Camp x);
}

-- those of at most so many levels
abbrev pub camp_json_at : ℕ → Codec Camp
camp_json_at = level camp_json_nested

pub camp_json_agrees : Agrees camp_means camp_codec.encoding.legal camp_means
    (limited camp_json_nested 128).encoding.legal
camp_json_agrees =
    agree_through (bin_agrees camp_nested camp_step (λ f. refl))
    (nested_agrees camp_json_nested camp_step (λ f. refl) 128)

-- those that are read, and what is legal in the words of the format before
abbrev pub camp_json : Codec Camp
camp_json = legal_as (limited camp_json_nested 128) camp_json_agrees

-- ==== Route: the layer around the values in it

abbrev pub route_json_content_step : Layer json json_grammar Route (Weather × Box Route Global)
route_json_content_step =
    struct_layer (fields_pair_layer (other_fields json_fields (required_field (codes "weather") weather_part)) (required_layer json_fields (codes "rest") (seen_layer (λ x. x.value) itself_layer))) (λ f. plain_names refl) (λ f. refl)

abbrev pub route_json_variants : VariantsLayer json_variants Route (RouteContent Route)
route_json_variants =
    next_unit json_variants (codes "End")
    (last_variant json_variants (codes "Step") route_json_content_step (λ f x d. tt))

abbrev pub route_json_layer : Layer json json_grammar Route (RouteContent Route)
route_json_layer = choice_layer route_json_variants (λ f. refl) (λ f. refl)

pub route_json_means_opened : (y : Route-F Route)
    → route_means_step (map-Route Route Meaning route_means y)
    ≡ route_json_layer.means route_means (route_opened y)
route_json_means_opened Route-F.End = refl
route_json_means_opened (Route-F.Step v0 v1) = refl

pub route_json_depth_opened : (y : Route-F Route)
    → route_depth_step (map-Route Route ℕ route_depth y)
    ≡ route_json_layer.deep route_depth (route_opened y)
route_json_depth_opened Route-F.End = refl
route_json_depth_opened (Route-F.Step v0 v1) = later_depth refl

abbrev pub route_json_nested : Nested json json_grammar Route
route_json_nested = record {
  Seen = RouteContent Route;
  layer = route_json_layer;
  view = route_view;
  means = route_means;
  depth = route_depth;
  means_is = λ x. fold_out-Route Meaning route_means_step x ∙ route_json_means_opened (out-Route x);
  depth_is = λ x. fold_out-Route ℕ route_depth_step x ∙ route_json_depth_opened (out-Route x);
}

-- those of at most so many levels
abbrev pub route_json_at : ℕ → Codec Route
route_json_at = level route_json_nested

pub route_json_agrees : Agrees route_means route_codec.encoding.legal route_means
    (limited route_json_nested 128).encoding.legal
route_json_agrees =
    agree_through (bin_agrees route_nested route_step (λ f. refl))
    (nested_agrees route_json_nested route_step (λ f. refl) 128)

-- those that are read, and what is legal in the words of the format before
abbrev pub route_json : Codec Route
route_json = legal_as (limited route_json_nested 128) route_json_agrees
