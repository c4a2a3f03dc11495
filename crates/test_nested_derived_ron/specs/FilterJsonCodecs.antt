-- Written by derive_files: types that contain themselves, and their codecs.
use Rattle.std.specs.Prelude.{◌≡◌, ℕ, refl, codes, Box, Option, String}
use Rattle.std.specs.Global.{Global}
use Rattle.std.proofs.Common.{◌∙◌}
use Rattle.nano_value.specs.Meaning.{Meaning}
use Rattle.nano_schema_levels.proofs.StepsLaws.{by_option, later_depth, list_depth}
use Rattle.nano_levels.specs.Layers.{Layer, Nested}
use Rattle.nano_levels.proofs.LayersLaws.{itself_layer, list_layer, other_layer}
use Rattle.nano_levels.proofs.LevelsLaws.{level, limited}
use Rattle.nano_schema_levels.specs.VariantLayers.{VariantsLayer}
use Rattle.nano_schema_levels.proofs.FieldLayersLaws.{fields_pair_layer, optional_layer, other_fields, struct_layer}
use Rattle.nano_schema_levels.proofs.PartLaws.{pair_layer, seen_layer, single_layer}
use Rattle.nano_schema_levels.proofs.VariantLayersLaws.{choice_layer, last_variant, next_unit, next_variant}
use Rattle.nano_json.specs.Codec.{Codec}
use Rattle.nano_json_tokens.specs.Cut.{json_grammar}
use Rattle.nano_json_tokens.proofs.JsonLaws.{json, block_brackets, block_style, tuple_style}
use Rattle.nano_json_schema.specs.FieldCodecs.{plain_names, json_fields, required_field, u8_codec, string_codec}
use Rattle.nano_json_schema.specs.VariantCodecs.{json_variants}
use Rattle.test_nested_derived_ron.specs.declared.filter.Filter.{Filter}
use Rattle.test_nested_derived_ron.specs.declared.filter.Filter.TheOpen.{Filter-F}
use Rattle.test_nested_derived_ron.specs.declared.filter.Filter.TheViews.{out-Filter}
use Rattle.test_nested_derived_ron.specs.declared.filter.Filter.TheFolds.{map-Filter, fold_out-Filter}
use Rattle.test_nested_derived_ron.specs.FilterCodecs.{FilterContent, filter_opened, filter_view, filter_means, filter_means_step}
use Rattle.test_nested_derived_ron.specs.FilterCodecs.{filter_depth, filter_depth_step}

-- ==== Filter: the layer around the values in it

abbrev pub filter_json_content_has : Layer json json_grammar Filter (String Global × Option (Box Filter Global))
filter_json_content_has =
    struct_layer (fields_pair_layer (other_fields json_fields (required_field (codes "field") string_codec)) (optional_layer json_fields (codes "and") (seen_layer (λ x. x.value) itself_layer))) (λ f. plain_names refl) (λ f. refl)

abbrev pub filter_json_variants : VariantsLayer json_variants Filter (FilterContent Filter)
filter_json_variants =
    next_unit json_variants (codes "Any")
    (next_variant json_variants (codes "Not") (single_layer tuple_style block_brackets (seen_layer (λ x. x.value) itself_layer)) (λ f x d. tt)
    (next_variant json_variants (codes "AtLeast") (pair_layer tuple_style block_brackets (other_layer u8_codec) (seen_layer (λ x. x.items) (list_layer block_style block_brackets itself_layer))) (λ f x d. tt)
    (last_variant json_variants (codes "Has") filter_json_content_has (λ f x d. tt))))

abbrev pub filter_json_layer : Layer json json_grammar Filter (FilterContent Filter)
filter_json_layer = choice_layer filter_json_variants (λ f. refl) (λ f. refl)

pub filter_json_means_opened : (y : Filter-F Filter)
    → filter_means_step (map-Filter Filter Meaning filter_means y)
    ≡ filter_json_layer.means filter_means (filter_opened y)
filter_json_means_opened Filter-F.Any = refl
filter_json_means_opened (Filter-F.Not v) = refl
filter_json_means_opened (Filter-F.AtLeast v0 v1) = refl
filter_json_means_opened (Filter-F.Has v0 v1) =
    by_option (λ o. filter_means_step (map-Filter Filter Meaning filter_means (Filter-F.Has v0 o))
    ≡ filter_json_layer.means filter_means (filter_opened {X = Filter} (Filter-F.Has v0 o)))
    refl (λ x1. refl)
    v1

pub filter_json_depth_opened : (y : Filter-F Filter)
    → filter_depth_step (map-Filter Filter ℕ filter_depth y)
    ≡ filter_json_layer.deep filter_depth (filter_opened y)
filter_json_depth_opened Filter-F.Any = refl
filter_json_depth_opened (Filter-F.Not v) = refl
filter_json_depth_opened (Filter-F.AtLeast v0 v1) =
    later_depth (list_depth _ _ _ (λ x. refl) v1.items)
filter_json_depth_opened (Filter-F.Has v0 v1) =
    by_option (λ o. filter_depth_step (map-Filter Filter ℕ filter_depth (Filter-F.Has v0 o))
    ≡ filter_json_layer.deep filter_depth (filter_opened {X = Filter} (Filter-F.Has v0 o)))
    refl (λ x1. later_depth refl)
    v1

abbrev pub filter_json_nested : Nested json json_grammar Filter
filter_json_nested = record {
  Seen = FilterContent Filter;
  layer = filter_json_layer;
  view = filter_view;
  means = filter_means;
  depth = filter_depth;
  means_is = λ x. fold_out-Filter Meaning filter_means_step x ∙ filter_json_means_opened (out-Filter x);
  depth_is = λ x. fold_out-Filter ℕ filter_depth_step x ∙ filter_json_depth_opened (out-Filter x);
}

-- those of at most so many levels
abbrev pub filter_json_at : ℕ → Codec Filter
filter_json_at = level filter_json_nested

-- those that are read
abbrev pub filter_json : Codec Filter
filter_json = limited filter_json_nested 128
