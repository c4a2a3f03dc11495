-- Written by derive_files: types that contain themselves, and their codecs.
use Rattle.std.specs.Prelude.{◌≡◌, ℕ, suc, map, refl, Box, Vec}
use Rattle.std.specs.Global.{Global}
use Rattle.std.proofs.Common.{◌∙◌, lit≤}
use Rattle.nano_value.specs.Meaning.{Meaning, nothing, listed, paired, LegalUnit, LegalList, LegalPair}
use Rattle.nano_value.specs.Sums.{tagged, LegalVariant, variant, no_variants}
use Rattle.nano_levels.specs.Layers.{greatest}
use Rattle.nano_schema.specs.declared.choices.Either.{Either}
use Rattle.nano_schema.specs.declared.choices.Either.TheVariants.{First, Later}
use Rattle.nano_schema_levels.specs.LegalLevels.{LegalStep}
use Rattle.nano_schema_levels.proofs.StepsLaws.{list_depth}
use Rattle.nano_bin_bytes.specs.Codec.{Codec}
use Rattle.nano_bin.specs.ScalarCodecs.{unit_codec}
use Rattle.nano_bin_levels.specs.Layers.{Layer, Nested}
use Rattle.nano_bin_levels.proofs.LayersLaws.{itself_layer, next_layer, other_layer, seen_layer}
use Rattle.nano_bin_levels.proofs.ListsLaws.{list_layer}
use Rattle.nano_bin_levels.proofs.LevelsLaws.{nested_codec}
use Rattle.nano_bin_nested.specs.ChoiceLayerCodecs.{ChoiceLayer, choice_layer, last_variant, next_variant}
use Rattle.test_nested_parts.specs.contracts.camp.derived.WeatherBinCodec.TheImpl.{ghosts as weather_bin}
use Rattle.test_nested_parts.specs.declared.camp.Camp.{Camp}
use Rattle.test_nested_parts.specs.declared.camp.Camp.TheOpen.{Camp-F}
use Rattle.test_nested_parts.specs.declared.camp.Camp.TheViews.{out-Camp}
use Rattle.test_nested_parts.specs.declared.camp.Camp.TheFolds.{map-Camp, fold-Camp, fold_out-Camp}
use Rattle.test_nested_parts.specs.declared.camp.Weather.{Weather}
use Rattle.test_nested_parts.specs.contracts.camp.derived.WeatherValue.TheImpl.{ghosts as weather_value}
use Rattle.test_nested_parts.specs.declared.camp.Route.{Route}
use Rattle.test_nested_parts.specs.declared.camp.Route.TheOpen.{Route-F}
use Rattle.test_nested_parts.specs.declared.camp.Route.TheViews.{out-Route}
use Rattle.test_nested_parts.specs.declared.camp.Route.TheFolds.{map-Route, fold-Route, fold_out-Route}

-- the codec of `Weather`
abbrev pub weather_part : Codec Weather
weather_part = weather_bin.bin

-- ==== Camp: what a value is seen as

abbrev pub CampContent : Type 0 → Type 0
CampContent X = Weather × Vec X Global

abbrev pub camp_opened : {X : Type 0} → Camp-F X → CampContent X
camp_opened y = (y.weather, y.camps)

abbrev pub camp_view : Camp → CampContent Camp
camp_view x = camp_opened (out-Camp x)

-- ---- what it means, and how deep it is

abbrev pub camp_means_step : Camp-F Meaning → Meaning
camp_means_step y = paired (weather_value.means y.weather, listed y.camps.items)

abbrev pub camp_means : Camp → Meaning
camp_means = fold-Camp Meaning camp_means_step

abbrev pub camp_depth_step : Camp-F ℕ → ℕ
camp_depth_step y = greatest (map (λ x. suc x) y.camps.items)

abbrev pub camp_depth : Camp → ℕ
camp_depth = fold-Camp ℕ camp_depth_step

-- ---- which meanings are legal, given those that are of the values in it

abbrev pub camp_step : LegalStep
camp_step P = LegalPair weather_value.legal (LegalList P)

-- ---- as bytes: the layer around the values in it, and the codec

abbrev pub camp_layer : Layer Camp (CampContent Camp)
camp_layer = next_layer weather_part (seen_layer (λ x. x.items) (list_layer itself_layer))

pub camp_means_opened : (y : Camp-F Camp)
    → camp_means_step (map-Camp Camp Meaning camp_means y)
    ≡ camp_layer.means camp_means (camp_opened y)
camp_means_opened y = refl

pub camp_depth_opened : (y : Camp-F Camp)
    → camp_depth_step (map-Camp Camp ℕ camp_depth y)
    ≡ camp_layer.deep camp_depth (camp_opened y)
camp_depth_opened y = list_depth _ _ _ (λ x. refl) y.camps.items

abbrev pub camp_nested : Nested Camp
camp_nested = record {
  Seen = CampContent Camp;
  layer = camp_layer;
  view = camp_view;
  means = camp_means;
  depth = camp_depth;
  means_is = λ x. fold_out-Camp Meaning camp_means_step x ∙ camp_means_opened (out-Camp x);
  depth_is = λ x. fold_out-Camp ℕ camp_depth_step x ∙ camp_depth_opened (out-Camp x);
}

abbrev pub camp_codec : Codec Camp
camp_codec = nested_codec camp_nested

-- ==== Route: what a value is seen as

abbrev pub RouteContent : Type 0 → Type 0
RouteContent X = Either (Unit {0}) (Weather × Box X Global)

abbrev pub route_opened : {X : Type 0} → Route-F X → RouteContent X
route_opened Route-F.End = First (tt {0})
route_opened (Route-F.Step v0 v1) = Later (v0, v1)

abbrev pub route_view : Route → RouteContent Route
route_view x = route_opened (out-Route x)

-- ---- what it means, and how deep it is

abbrev pub route_means_step : Route-F Meaning → Meaning
route_means_step Route-F.End = tagged 0 nothing
route_means_step (Route-F.Step v0 v1) = tagged 1 (paired (weather_value.means v0, v1.value))

abbrev pub route_means : Route → Meaning
route_means = fold-Route Meaning route_means_step

abbrev pub route_depth_step : Route-F ℕ → ℕ
route_depth_step Route-F.End = 0
route_depth_step (Route-F.Step v0 v1) = suc v1.value

abbrev pub route_depth : Route → ℕ
route_depth = fold-Route ℕ route_depth_step

-- ---- which meanings are legal, given those that are of the values in it

abbrev pub route_step : LegalStep
route_step P =
    LegalVariant (variant LegalUnit (variant (LegalPair weather_value.legal P) no_variants))

-- ---- as bytes: the layer around the values in it, and the codec

abbrev pub route_variants : ChoiceLayer Route (RouteContent Route)
route_variants =
    next_variant (other_layer unit_codec)
    (last_variant (next_layer weather_part (seen_layer (λ x. x.value) itself_layer)))

abbrev pub route_layer : Layer Route (RouteContent Route)
route_layer = choice_layer route_variants (λ f. lit≤ tt)

pub route_means_opened : (y : Route-F Route)
    → route_means_step (map-Route Route Meaning route_means y)
    ≡ route_layer.means route_means (route_opened y)
route_means_opened Route-F.End = refl
route_means_opened (Route-F.Step v0 v1) = refl

pub route_depth_opened : (y : Route-F Route)
    → route_depth_step (map-Route Route ℕ route_depth y)
    ≡ route_layer.deep route_depth (route_opened y)
route_depth_opened Route-F.End = refl
route_depth_opened (Route-F.Step v0 v1) = refl

abbrev pub route_nested : Nested Route
route_nested = record {
  Seen = RouteContent Route;
  layer = route_layer;
  view = route_view;
  means = route_means;
  depth = route_depth;
  means_is = λ x. fold_out-Route Meaning route_means_step x ∙ route_means_opened (out-Route x);
  depth_is = λ x. fold_out-Route ℕ route_depth_step x ∙ route_depth_opened (out-Route x);
}

abbrev pub route_codec : Codec Route
route_codec = nested_codec route_nested
