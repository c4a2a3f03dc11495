-- Written by derive_files: types that contain themselves, and their codecs.
use Rattle.std.specs.Prelude.{◌≡◌, ℕ, refl, codes}
use Rattle.std.proofs.Common.{◌∙◌}
use Rattle.nano_value.specs.Meaning.{Meaning, Agrees}
use Rattle.nano_levels.specs.Layers.{Layer, Nested}
use Rattle.nano_levels.proofs.LayersLaws.{itself_layer, other_layer}
use Rattle.nano_levels.proofs.LevelsLaws.{level, limited}
use Rattle.nano_schema_levels.specs.VariantLayers.{VariantsLayer}
use Rattle.nano_schema_levels.proofs.LegalLevelsLaws.{agree_through, legal_as, nested_agrees}
use Rattle.nano_schema_levels.proofs.PartLaws.{pair_layer, seen_layer, single_layer}
use Rattle.nano_schema_levels.proofs.VariantLayersLaws.{choice_layer, last_variant, next_variant}
use Rattle.nano_bin_nested.proofs.LegalLaws.{nested_agrees as bin_agrees}
use Rattle.nano_ron.specs.Codec.{Codec}
use Rattle.nano_ron_tokens.specs.Cut.{ron_grammar}
use Rattle.nano_ron_tokens.proofs.RonLaws.{ron, paren_brackets}
use Rattle.nano_ron_tokens.proofs.StylesLaws.{tuple_style}
use Rattle.nano_ron_schema.specs.VariantCodecs.{ron_variants}
use Rattle.nano_ron_nested.specs.TypeCodecs.{i64_codec}
use Rattle.test_nested_derived.specs.declared.expression.Expression.{Expression}
use Rattle.test_nested_derived.specs.declared.expression.Expression.TheOpen.{Expression-F}
use Rattle.test_nested_derived.specs.declared.expression.Expression.TheViews.{out-Expression}
use Rattle.test_nested_derived.specs.declared.expression.Expression.TheFolds.{map-Expression, fold_out-Expression}
use Rattle.test_nested_derived.specs.ExpressionCodecs.{ExpressionContent, expression_opened, expression_view, expression_means, expression_means_step}
use Rattle.test_nested_derived.specs.ExpressionCodecs.{expression_depth, expression_depth_step}
use Rattle.test_nested_derived.specs.ExpressionCodecs.{expression_step, expression_nested, expression_codec}

-- ==== Expression: the layer around the values in it

abbrev pub expression_ron_variants : VariantsLayer ron_variants Expression (ExpressionContent Expression)
expression_ron_variants =
    next_variant ron_variants (codes "Number") (single_layer tuple_style paren_brackets (other_layer i64_codec)) (λ f x d. refl)
    (next_variant ron_variants (codes "Negated") (single_layer tuple_style paren_brackets (seen_layer (λ x. x.value) itself_layer)) (λ f x d. refl)
    (last_variant ron_variants (codes "Sum") (pair_layer tuple_style paren_brackets (seen_layer (λ x. x.value) itself_layer) (seen_layer (λ x. x.value) itself_layer)) (λ f x d. refl)))

abbrev pub expression_ron_layer : Layer ron ron_grammar Expression (ExpressionContent Expression)
expression_ron_layer = choice_layer expression_ron_variants (λ f. refl) (λ f. refl)

pub expression_ron_means_opened : (y : Expression-F Expression)
    → expression_means_step (map-Expression Expression Meaning expression_means y)
    ≡ expression_ron_layer.means expression_means (expression_opened y)
expression_ron_means_opened (Expression-F.Number v) = refl
expression_ron_means_opened (Expression-F.Negated v) = refl
expression_ron_means_opened (Expression-F.Sum v0 v1) = refl

pub expression_ron_depth_opened : (y : Expression-F Expression)
    → expression_depth_step (map-Expression Expression ℕ expression_depth y)
    ≡ expression_ron_layer.deep expression_depth (expression_opened y)
expression_ron_depth_opened (Expression-F.Number v) = refl
expression_ron_depth_opened (Expression-F.Negated v) = refl
expression_ron_depth_opened (Expression-F.Sum v0 v1) = refl

abbrev pub expression_ron_nested : Nested ron ron_grammar Expression
expression_ron_nested = record {
  Seen = ExpressionContent Expression;
  layer = expression_ron_layer;
  view = expression_view;
  means = expression_means;
  depth = expression_depth;
  means_is = λ x. fold_out-Expression Meaning expression_means_step x ∙ expression_ron_means_opened (out-Expression x);
  depth_is = λ x. fold_out-Expression ℕ expression_depth_step x ∙ expression_ron_depth_opened (out-Expression x);
}

-- those of at most so many levels
abbrev pub expression_ron_at : ℕ → Codec Expression
expression_ron_at = level expression_ron_nested

pub expression_ron_agrees : Agrees expression_means expression_codec.encoding.legal expression_means
    (limited expression_ron_nested 128).encoding.legal
expression_ron_agrees =
    agree_through (bin_agrees expression_nested expression_step (λ f. refl))
    (nested_agrees expression_ron_nested expression_step (λ f. refl) 128)

-- those that are read, and what is legal in the words of the format before
abbrev pub expression_ron : Codec Expression
expression_ron = legal_as (limited expression_ron_nested 128) expression_ron_agrees
