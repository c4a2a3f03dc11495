-- Written by derive_files: types that contain themselves, and their codecs.
use Rattle.std.specs.Prelude.{◌≡◌, ℕ, List, refl, codes, Box, Option, String}
use Rattle.std.specs.Global.{Global}
use Rattle.std.proofs.Common.{◌∙◌}
use Rattle.nano_value.specs.Meaning.{Meaning, Agrees}
use Rattle.nano_schema_levels.proofs.StepsLaws.{by_option, later_depth, list_depth}
use Rattle.nano_levels.specs.Layers.{Layer, Nested}
use Rattle.nano_levels.proofs.LayersLaws.{itself_layer, list_layer, other_layer}
use Rattle.nano_levels.proofs.LevelsLaws.{level, limited}
use Rattle.nano_schema_levels.specs.VariantLayers.{VariantsLayer}
use Rattle.nano_schema_levels.proofs.FieldLayersLaws.{fields_pair_layer, optional_layer, other_fields, struct_layer}
use Rattle.nano_schema_levels.proofs.LegalLevelsLaws.{agree_through, legal_as, nested_agrees}
use Rattle.nano_schema_levels.proofs.PartLaws.{pair_layer, seen_layer, single_layer}
use Rattle.nano_schema_levels.proofs.VariantLayersLaws.{choice_layer, last_variant, next_unit, next_variant}
use Rattle.nano_ron.specs.Codec.{Codec}
use Rattle.nano_ron_tokens.specs.Cut.{ron_grammar}
use Rattle.nano_ron_tokens.proofs.RonLaws.{ron, block_brackets, paren_brackets}
use Rattle.nano_ron_tokens.proofs.StylesLaws.{line_style, tuple_style}
use Rattle.nano_ron_schema.specs.FieldCodecs.{required_field, ron_fields, word_names}
use Rattle.nano_ron_schema.specs.VariantCodecs.{ron_variants}
use Rattle.nano_ron_schema.specs.Variants.{content_text}
use Rattle.nano_ron_nested.specs.TypeCodecs.{u8_codec, string_codec}
use Rattle.test_nested_derived_ron.specs.declared.filter.Filter.{Filter}
use Rattle.test_nested_derived_ron.specs.declared.filter.Filter.TheOpen.{Filter-F}
use Rattle.test_nested_derived_ron.specs.declared.filter.Filter.TheViews.{out-Filter}
use Rattle.test_nested_derived_ron.specs.declared.filter.Filter.TheFolds.{map-Filter, fold_out-Filter}
use Rattle.test_nested_derived_ron.specs.FilterCodecs.{FilterContent, filter_opened, filter_view, filter_means, filter_means_step}
use Rattle.test_nested_derived_ron.specs.FilterCodecs.{filter_depth, filter_depth_step}
use Rattle.test_nested_derived_ron.specs.FilterCodecs.{filter_step}
use Rattle.test_nested_derived_ron.specs.FilterJsonCodecs.{filter_json_nested, filter_json}

-- ==== Filter: the layer around the values in it

abbrev pub filter_ron_content_has : Layer ron ron_grammar Filter (String Global × Option (Box Filter Global))
filter_ron_content_has =
    struct_layer (fields_pair_layer (other_fields ron_fields (required_field (codes "field") string_codec)) (optional_layer ron_fields (codes "and") (seen_layer (λ x. x.value) itself_layer))) (λ f. word_names refl) (λ f. refl)

abbrev pub filter_ron_variants : VariantsLayer ron_variants Filter (FilterContent Filter)
filter_ron_variants =
    next_unit ron_variants (codes "Any")
    (next_variant ron_variants (codes "Not") (single_layer tuple_style paren_brackets (seen_layer (λ x. x.value) itself_layer)) (λ f x d. refl)
    (next_variant ron_variants (codes "AtLeast") (pair_layer tuple_style paren_brackets (other_layer u8_codec) (seen_layer (λ x. x.items) (list_layer line_style block_brackets itself_layer))) (λ f x d. refl)
    (last_variant ron_variants (codes "Has") filter_ron_content_has (λ f x d. refl))))

abbrev pub filter_ron_layer : Layer ron ron_grammar Filter (FilterContent Filter)
filter_ron_layer = choice_layer filter_ron_variants (λ f. refl) (λ f. refl)

pub filter_ron_means_opened : (y : Filter-F Filter)
    → filter_means_step (map-Filter Filter Meaning filter_means y)
    ≡ filter_ron_layer.means filter_means (filter_opened y)
filter_ron_means_opened Filter-F.Any = refl
filter_ron_means_opened (Filter-F.Not v) = refl
filter_ron_means_opened (Filter-F.AtLeast v0 v1) = refl
filter_ron_means_opened (Filter-F.Has v0 v1) =
    by_option (λ o. filter_means_step (map-Filter Filter Meaning filter_means (Filter-F.Has v0 o))
    ≡ filter_ron_layer.means filter_means (filter_opened {X = Filter} (Filter-F.Has v0 o)))
    refl (λ x1. refl)
    v1

pub filter_ron_depth_opened : (y : Filter-F Filter)
    → filter_depth_step (map-Filter Filter ℕ filter_depth y)
    ≡ filter_ron_layer.deep filter_depth (filter_opened y)
filter_ron_depth_opened Filter-F.Any = refl
filter_ron_depth_opened (Filter-F.Not v) = refl
filter_ron_depth_opened (Filter-F.AtLeast v0 v1) =
    later_depth (list_depth _ _ _ (λ x. refl) v1.items)
filter_ron_depth_opened (Filter-F.Has v0 v1) =
    by_option (λ o. filter_depth_step (map-Filter Filter ℕ filter_depth (Filter-F.Has v0 o))
    ≡ filter_ron_layer.deep filter_depth (filter_opened {X = Filter} (Filter-F.Has v0 o)))
    refl (λ x1. later_depth refl)
    v1

abbrev pub filter_ron_nested : Nested ron ron_grammar Filter
filter_ron_nested = record {
  Seen = FilterContent Filter;
  layer = filter_ron_layer;
  view = filter_view;
  means = filter_means;
  depth = filter_depth;
  means_is = λ x. fold_out-Filter Meaning filter_means_step x ∙ filter_ron_means_opened (out-Filter x);
  depth_is = λ x. fold_out-Filter ℕ filter_depth_step x ∙ filter_ron_depth_opened (out-Filter x);
}

-- those of at most so many levels
abbrev pub filter_ron_at : ℕ → Codec Filter
filter_ron_at = level filter_ron_nested

pub filter_ron_agrees : Agrees filter_means filter_json.encoding.legal filter_means
    (limited filter_ron_nested 128).encoding.legal
filter_ron_agrees =
    agree_through (nested_agrees filter_json_nested filter_step (λ f. refl) 128)
    (nested_agrees filter_ron_nested filter_step (λ f. refl) 128)

-- those that are read, and what is legal in the words of the format before
abbrev pub filter_ron : Codec Filter
filter_ron = legal_as (limited filter_ron_nested 128) filter_ron_agrees

-- a value of `Has` as it is written
abbrev pub filter_ron_of_has : ℕ → String Global → Option (Box Filter Global) → List ℕ
filter_ron_of_has d v0 v1 =
    content_text (codes "Has") ((filter_ron_content_has.codec filter_ron).canonical.text d (v0, v1))
