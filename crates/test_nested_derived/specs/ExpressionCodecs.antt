-- Written by derive_files: types that contain themselves, and their codecs.
use Rattle.std.specs.Prelude.{◌≡◌, ℕ, ℤ, suc, max, refl, Box}
use Rattle.std.specs.Global.{Global}
use Rattle.std.specs.Int.{w64}
use Rattle.std.proofs.Common.{◌∙◌, lit≤}
use Rattle.nano_value.specs.Meaning.{Meaning, number, paired, LegalSigned, LegalPair}
use Rattle.nano_value.specs.Sums.{tagged, LegalVariant, variant, no_variants}
use Rattle.nano_schema.specs.declared.choices.Either.{Either}
use Rattle.nano_schema.specs.declared.choices.Either.TheVariants.{First, Later}
use Rattle.nano_schema_levels.specs.LegalLevels.{LegalStep}
use Rattle.nano_bin_bytes.specs.Codec.{Codec}
use Rattle.nano_bin.specs.ScalarCodecs.{i64_codec}
use Rattle.nano_bin_levels.specs.Layers.{Layer, Nested}
use Rattle.nano_bin_levels.proofs.LayersLaws.{itself_layer, other_layer, seen_layer}
use Rattle.nano_bin_levels.proofs.LevelsLaws.{nested_codec}
use Rattle.nano_bin_nested.specs.ChoiceLayerCodecs.{ChoiceLayer, choice_layer, last_variant, next_variant}
use Rattle.nano_bin_nested.specs.PairLayerCodecs.{pair_layer}
use Rattle.test_nested_derived.specs.declared.expression.Expression.{Expression}
use Rattle.test_nested_derived.specs.declared.expression.Expression.TheOpen.{Expression-F}
use Rattle.test_nested_derived.specs.declared.expression.Expression.TheViews.{out-Expression}
use Rattle.test_nested_derived.specs.declared.expression.Expression.TheFolds.{map-Expression, fold-Expression, fold_out-Expression}

-- ==== Expression: what a value is seen as

abbrev pub ExpressionContent : Type 0 → Type 0
ExpressionContent X = Either ℤ (Either (Box X Global) (Box X Global × Box X Global))

abbrev pub expression_opened : {X : Type 0} → Expression-F X → ExpressionContent X
expression_opened (Expression-F.Number v) = First v
expression_opened (Expression-F.Negated v) = Later (First v)
expression_opened (Expression-F.Sum v0 v1) = Later (Later (v0, v1))

abbrev pub expression_view : Expression → ExpressionContent Expression
expression_view x = expression_opened (out-Expression x)

-- ---- what it means, and how deep it is

abbrev pub expression_means_step : Expression-F Meaning → Meaning
expression_means_step (Expression-F.Number v) = tagged 0 (number v)
expression_means_step (Expression-F.Negated v) = tagged 1 v.value
expression_means_step (Expression-F.Sum v0 v1) = tagged 2 (paired (v0.value, v1.value))

abbrev pub expression_means : Expression → Meaning
expression_means = fold-Expression Meaning expression_means_step

abbrev pub expression_depth_step : Expression-F ℕ → ℕ
expression_depth_step (Expression-F.Number v) = 0
expression_depth_step (Expression-F.Negated v) = suc v.value
expression_depth_step (Expression-F.Sum v0 v1) = max (suc v0.value) (suc v1.value)

abbrev pub expression_depth : Expression → ℕ
expression_depth = fold-Expression ℕ expression_depth_step

-- ---- which meanings are legal, given those that are of the values in it

abbrev pub expression_step : LegalStep
expression_step P =
    LegalVariant (variant (LegalSigned w64) (variant P (variant (LegalPair P P) no_variants)))

-- ---- as bytes: the layer around the values in it, and the codec

abbrev pub expression_variants : ChoiceLayer Expression (ExpressionContent Expression)
expression_variants =
    next_variant (other_layer i64_codec)
    (next_variant (seen_layer (λ x. x.value) itself_layer)
    (last_variant (pair_layer (seen_layer (λ x. x.value) itself_layer) (seen_layer (λ x. x.value) itself_layer))))

abbrev pub expression_layer : Layer Expression (ExpressionContent Expression)
expression_layer = choice_layer expression_variants (λ f. lit≤ tt)

pub expression_means_opened : (y : Expression-F Expression)
    → expression_means_step (map-Expression Expression Meaning expression_means y)
    ≡ expression_layer.means expression_means (expression_opened y)
expression_means_opened (Expression-F.Number v) = refl
expression_means_opened (Expression-F.Negated v) = refl
expression_means_opened (Expression-F.Sum v0 v1) = refl

pub expression_depth_opened : (y : Expression-F Expression)
    → expression_depth_step (map-Expression Expression ℕ expression_depth y)
    ≡ expression_layer.deep expression_depth (expression_opened y)
expression_depth_opened (Expression-F.Number v) = refl
expression_depth_opened (Expression-F.Negated v) = refl
expression_depth_opened (Expression-F.Sum v0 v1) = refl

abbrev pub expression_nested : Nested Expression
expression_nested = record {
  Seen = ExpressionContent Expression;
  layer = expression_layer;
  view = expression_view;
  means = expression_means;
  depth = expression_depth;
  means_is = λ x. fold_out-Expression Meaning expression_means_step x ∙ expression_means_opened (out-Expression x);
  depth_is = λ x. fold_out-Expression ℕ expression_depth_step x ∙ expression_depth_opened (out-Expression x);
}

abbrev pub expression_codec : Codec Expression
expression_codec = nested_codec expression_nested
