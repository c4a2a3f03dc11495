-- Written by derive_files: types that contain themselves, and their codecs.
use Rattle.std.specs.Prelude.{◌≡◌, ℕ, refl, codes}
use Rattle.std.proofs.Common.{◌∙◌}
use Rattle.nano_value.specs.Meaning.{Meaning, Agrees}
use Rattle.nano_levels.specs.Layers.{Layer, Nested}
use Rattle.nano_levels.proofs.LayersLaws.{itself_layer, other_layer}
use Rattle.nano_levels.proofs.LevelsLaws.{level, limited}
use Rattle.nano_schema_levels.specs.VariantLayers.{VariantsLayer}
use Rattle.nano_schema_levels.proofs.LegalLevelsLaws.{agree_through, legal_as, nested_agrees}
use Rattle.nano_schema_levels.proofs.PartLaws.{pair_layer, seen_layer, single_layer}
use Rattle.nano_schema_levels.proofs.VariantLayersLaws.{choice_layer, last_variant, next_variant}
use Rattle.nano_bin_nested.proofs.LegalLaws.{nested_agrees as bin_agrees}
use Rattle.nano_json.specs.Codec.{Codec}
use Rattle.nano_json_tokens.specs.Cut.{json_grammar}
use Rattle.nano_json_tokens.proofs.JsonLaws.{json, block_brackets, tuple_style}
use Rattle.nano_json_schema.specs.FieldCodecs.{i64_codec}
use Rattle.nano_json_schema.specs.VariantCodecs.{json_variants}
use Rattle.test_nested_derived.specs.declared.expression.Expression.{Expression}
use Rattle.test_nested_derived.specs.declared.expression.Expression.TheOpen.{Expression-F}
use Rattle.test_nested_derived.specs.declared.expression.Expression.TheViews.{out-Expression}
use Rattle.test_nested_derived.specs.declared.expression.Expression.TheFolds.{map-Expression, fold_out-Expression}
use Rattle.test_nested_derived.specs.ExpressionCodecs.{ExpressionContent, expression_opened, expression_view, expression_means, expression_means_step}
use Rattle.test_nested_derived.specs.ExpressionCodecs.{expression_depth, expression_depth_step}
use Rattle.test_nested_derived.specs.ExpressionCodecs.{expression_step, expression_nested, expression_codec}

-- ==== Expression: the layer around the values in it

abbrev pub expression_json_variants : VariantsLayer json_variants Expression (ExpressionContent Expression)
expression_json_variants =
    next_variant json_variants (codes "Number") (single_layer tuple_style block_brackets (other_layer i64_codec)) (λ f x d. tt)
    (next_variant json_variants (codes "Negated") (single_layer tuple_style block_brackets (seen_layer (λ x. x.value) itself_layer)) (λ f x d. tt)
    (last_variant json_variants (codes "Sum") (pair_layer tuple_style block_brackets (seen_layer (λ x. x.value) itself_layer) (seen_layer (λ x. x.value) itself_layer)) (λ f x d. tt)))

abbrev pub expression_json_layer : Layer json json_grammar Expression (ExpressionContent Expression)
expression_json_layer = choice_layer expression_json_variants (λ f. refl) (λ f. refl)

pub expression_json_means_opened : (y : Expression-F Expression)
    → expression_means_step (map-Expression Expression Meaning expression_means y)
    ≡ expression_json_layer.means expression_means (expression_opened y)
expression_json_means_opened (Expression-F.Number v) = refl
expression_json_means_opened (Expression-F.Negated v) = refl
expression_json_means_opened (Expression-F.Sum v0 v1) = refl

pub expression_json_depth_opened : (y : Expression-F Expression)
    → expression_depth_step (map-Expression Expression ℕ expression_depth y)
    ≡ expression_json_layer.deep expression_depth (expression_opened y)
expression_json_depth_opened (Expression-F.Number v) = refl
expression_json_depth_opened (Expression-F.Negated v) = refl
expression_json_depth_opened (Expression-F.Sum v0 v1) = refl

abbrev pub expression_json_nested : Nested json json_grammar Expression
expression_json_nested = record {
  Seen = ExpressionContent Expression;
  layer = expression_json_layer;
  view = expression_view;
  means = expression_means;
  depth = expression_depth;
  means_is = λ x. fold_out-Expression Meaning expression_means_step x ∙ expression_json_means_opened (out-Expression x);
  depth_is = λ x. fold_out-Expression ℕ expression_depth_step x ∙ expression_json_depth_opened (out-Expression x);
}

-- those of at most so many levels
abbrev pub expression_json_at : ℕ → Codec Expression
expression_json_at = level expression_json_nested

pub expression_json_agrees : Agrees expression_means expression_codec.encoding.legal expression_means
    (limited expression_json_nested 128).encoding.legal
expression_json_agrees =
    agree_through (bin_agrees expression_nested expression_step (λ f. refl))
    (nested_agrees expression_json_nested expression_step (λ f. refl) 128)

-- those that are read, and what is legal in the words of the format before
abbrev pub expression_json : Codec Expression
expression_json = legal_as (limited expression_json_nested 128) expression_json_agrees
