-- Written by derive_files: types that contain themselves, and their codecs.
use Rattle.std.specs.Prelude.{◌≡◌, ℕ, List, refl, codes, Box}
use Rattle.std.specs.Global.{Global}
use Rattle.std.proofs.Common.{◌∙◌}
use Rattle.nano_value.specs.Meaning.{Meaning, Agrees}
use Rattle.nano_schema_levels.proofs.StepsLaws.{later_depth, list_depth}
use Rattle.nano_levels.specs.Layers.{Layer, Nested}
use Rattle.nano_levels.proofs.LayersLaws.{itself_layer, list_layer}
use Rattle.nano_levels.proofs.LevelsLaws.{level, limited}
use Rattle.nano_schema_levels.specs.FieldLayers.{FieldsLayer}
use Rattle.nano_schema_levels.specs.VariantLayers.{VariantsLayer}
use Rattle.nano_schema_levels.proofs.FieldLayersLaws.{fields_pair_layer, other_fields, required_layer, struct_layer}
use Rattle.nano_schema_levels.proofs.LegalLevelsLaws.{agree_through, legal_as, nested_agrees}
use Rattle.nano_schema_levels.proofs.PartLaws.{seen_layer}
use Rattle.nano_schema_levels.proofs.VariantLayersLaws.{choice_layer, last_variant, next_unit}
use Rattle.nano_bin_nested.proofs.LegalLaws.{nested_agrees as bin_agrees}
use Rattle.nano_ron.specs.Codec.{Codec}
use Rattle.nano_ron_tokens.specs.Cut.{ron_grammar}
use Rattle.nano_ron_tokens.proofs.RonLaws.{ron, block_brackets}
use Rattle.nano_ron_tokens.proofs.StylesLaws.{line_style}
use Rattle.nano_ron_schema.specs.FieldCodecs.{required_field, ron_fields, word_names}
use Rattle.nano_ron_schema.specs.VariantCodecs.{ron_variants}
use Rattle.nano_ron_schema.specs.Variants.{content_text}
use Rattle.test_nested_parts.specs.contracts.camp.derived.WeatherRonCodec.TheImpl.{ghosts as weather_ron}
use Rattle.test_nested_parts.specs.declared.camp.Camp.{Camp}
use Rattle.test_nested_parts.specs.declared.camp.Camp.TheOpen.{Camp-F}
use Rattle.test_nested_parts.specs.declared.camp.Camp.TheViews.{out-Camp}
use Rattle.test_nested_parts.specs.declared.camp.Camp.TheFolds.{map-Camp, fold_out-Camp}
use Rattle.test_nested_parts.specs.CampCodecs.{CampContent, camp_opened, camp_view, camp_means, camp_means_step}
use Rattle.test_nested_parts.specs.CampCodecs.{camp_depth, camp_depth_step}
use Rattle.test_nested_parts.specs.CampCodecs.{camp_step, camp_nested, camp_codec}
use Rattle.test_nested_parts.specs.declared.camp.Weather.{Weather}
use Rattle.test_nested_parts.specs.declared.camp.Route.{Route}
use Rattle.test_nested_parts.specs.declared.camp.Route.TheOpen.{Route-F}
use Rattle.test_nested_parts.specs.declared.camp.Route.TheViews.{out-Route}
use Rattle.test_nested_parts.specs.declared.camp.Route.TheFolds.{map-Route, fold_out-Route}
use Rattle.test_nested_parts.specs.CampCodecs.{RouteContent, route_opened, route_view, route_means, route_means_step}
use Rattle.test_nested_parts.specs.CampCodecs.{route_depth, route_depth_step}
use Rattle.test_nested_parts.specs.CampCodecs.{route_step, route_nested, route_codec}

-- the codec of `Weather`
abbrev pub weather_part : Codec Weather
weather_part = weather_ron.ron

-- ==== Camp: the layer around the values in it

abbrev pub camp_ron_fields : FieldsLayer ron_fields Camp (CampContent Camp)
camp_ron_fields =
    fields_pair_layer (other_fields ron_fields (required_field (codes "weather") weather_part)) (required_layer ron_fields (codes "camps") (seen_layer (λ x. x.items) (list_layer line_style block_brackets itself_layer)))

abbrev pub camp_ron_layer : Layer ron ron_grammar Camp (CampContent Camp)
camp_ron_layer = struct_layer camp_ron_fields (λ f. word_names refl) (λ f. refl)

pub camp_ron_means_opened : (y : Camp-F Camp)
    → camp_means_step (map-Camp Camp Meaning camp_means y)
    ≡ camp_ron_layer.means camp_means (camp_opened y)
camp_ron_means_opened y = refl

pub camp_ron_depth_opened : (y : Camp-F Camp)
    → camp_depth_step (map-Camp Camp ℕ camp_depth y)
    ≡ camp_ron_layer.deep camp_depth (camp_opened y)
camp_ron_depth_opened y = later_depth (list_depth _ _ _ (λ x. refl) y.camps.items)

abbrev pub camp_ron_nested : Nested ron ron_grammar Camp
camp_ron_nested = record {
  Seen = CampContent Camp;
  layer = camp_ron_layer;
  view = camp_view;
  means = camp_means;
  depth = camp_depth;
  means_is = λ x. fold_out-Camp Meaning camp_means_step x ∙ camp_ron_means_opened (out-Camp x);
  depth_is = λ x. fold_out-Camp ℕ camp_depth_step x ∙ camp_ron_depth_opened (out-Camp x);
}

-- those of at most so many levels
abbrev pub camp_ron_at : ℕ → Codec Camp
camp_ron_at = level camp_ron_nested

pub camp_ron_agrees : Agrees camp_means camp_codec.encoding.legal camp_means
    (limited camp_ron_nested 128).encoding.legal
camp_ron_agrees =
    agree_through (bin_agrees camp_nested camp_step (λ f. refl))
    (nested_agrees camp_ron_nested camp_step (λ f. refl) 128)

-- those that are read, and what is legal in the words of the format before
abbrev pub camp_ron : Codec Camp
camp_ron = legal_as (limited camp_ron_nested 128) camp_ron_agrees

-- ==== Route: the layer around the values in it

abbrev pub route_ron_content_step : Layer ron ron_grammar Route (Weather × Box Route Global)
route_ron_content_step =
    struct_layer (fields_pair_layer (other_fields ron_fields (required_field (codes "weather") weather_part)) (required_layer ron_fields (codes "rest") (seen_layer (λ x. x.value) itself_layer))) (λ f. word_names refl) (λ f. refl)

abbrev pub route_ron_variants : VariantsLayer ron_variants Route (RouteContent Route)
route_ron_variants =
    next_unit ron_variants (codes "End")
    (last_variant ron_variants (codes "Step") route_ron_content_step (λ f x d. refl))

abbrev pub route_ron_layer : Layer ron ron_grammar Route (RouteContent Route)
route_ron_layer = choice_layer route_ron_variants (λ f. refl) (λ f. refl)

pub route_ron_means_opened : (y : Route-F Route)
    → route_means_step (map-Route Route Meaning route_means y)
    ≡ route_ron_layer.means route_means (route_opened y)
route_ron_means_opened Route-F.End = refl
route_ron_means_opened (Route-F.Step v0 v1) = refl

pub route_ron_depth_opened : (y : Route-F Route)
    → route_depth_step (map-Route Route ℕ route_depth y)
    ≡ route_ron_layer.deep route_depth (route_opened y)
route_ron_depth_opened Route-F.End = refl
route_ron_depth_opened (Route-F.Step v0 v1) = later_depth refl

abbrev pub route_ron_nested : Nested ron ron_grammar Route
route_ron_nested = record {
  Seen = RouteContent Route;
  layer = route_ron_layer;
  view = route_view;
  means = route_means;
  depth = route_depth;
  means_is = λ x. fold_out-Route Meaning route_means_step x ∙ route_ron_means_opened (out-Route x);
  depth_is = λ x. fold_out-Route ℕ route_depth_step x ∙ route_ron_depth_opened (out-Route x);
}

-- those of at most so many levels
abbrev pub route_ron_at : ℕ → Codec Route
route_ron_at = level route_ron_nested

pub route_ron_agrees : Agrees route_means route_codec.encoding.legal route_means
    (limited route_ron_nested 128).encoding.legal
route_ron_agrees =
    agree_through (bin_agrees route_nested route_step (λ f. refl))
    (nested_agrees route_ron_nested route_step (λ f. refl) 128)

-- those that are read, and what is legal in the words of the format before
abbrev pub route_ron : Codec Route
route_ron = legal_as (limited route_ron_nested 128) route_ron_agrees

-- a value of `Step` as it is written
abbrev pub route_ron_of_step : ℕ → Weather → Box Route Global → List ℕ
route_ron_of_step d v0 v1 =
    content_text (codes "Step") ((route_ron_content_step.codec route_ron).canonical.text d (v0, v1))
