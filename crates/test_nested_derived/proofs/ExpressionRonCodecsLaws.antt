-- Written by derive_files: what is proved of types that contain themselves.
use Rattle.std.specs.Prelude.{◌≡◌, ℕ, ℤ, codes, Box}
use Rattle.std.specs.Global.{Global}
use Rattle.nano_schema.specs.declared.choices.Either.TheVariants.{First, Later}
use Rattle.nano_schema_levels.proofs.NestedLaws.{text_seen}
use Rattle.nano_ron.specs.Codec.{codec_as}
use Rattle.nano_ron.specs.ContainerCodecs.{pair_codec}
use Rattle.nano_ron_schema.specs.VariantCodecs.{single_codec}
use Rattle.nano_ron_schema.specs.Variants.{content_text}
use Rattle.nano_ron_nested.specs.TypeCodecs.{i64_codec}
use Rattle.test_nested_derived.specs.declared.expression.Expression.{Expression}
use Rattle.test_nested_derived.specs.ExpressionCodecs.{expression_view}
use Rattle.test_nested_derived.specs.ExpressionRonCodecs.{expression_ron_nested, expression_ron}
use Rattle.test_nested_derived.proofs.ExpressionCodecsLaws.{expression_view_number, expression_view_negated, expression_view_sum}
use Rattle.test_nested_derived.specs.declared.expression.Expression.{Number as Expression-Number}
use Rattle.test_nested_derived.specs.declared.expression.Expression.{Negated as Expression-Negated}
use Rattle.test_nested_derived.specs.declared.expression.Expression.{Sum as Expression-Sum}

-- ==== Expression

pub expression_ron_text_number : (d : ℕ)
    → (v : ℤ)
    → expression_ron.canonical.text d (Expression-Number v)
    ≡ content_text (codes "Number") ((single_codec i64_codec).canonical.text d v)
expression_ron_text_number d v =
    text_seen expression_ron_nested 128 d (Expression-Number v) (First v) (expression_view_number v)

pub expression_ron_text_negated : (d : ℕ)
    → (v : Box Expression Global)
    → expression_ron.canonical.text d (Expression-Negated v)
    ≡ content_text (codes "Negated") ((single_codec (codec_as (λ (x : Box Expression Global). x.value) expression_ron)).canonical.text d v)
expression_ron_text_negated d v =
    text_seen expression_ron_nested 128 d (Expression-Negated v) (Later (First v)) (expression_view_negated v)

pub expression_ron_text_sum : (d : ℕ)
    → (v0 : Box Expression Global)
    → (v1 : Box Expression Global)
    → expression_ron.canonical.text d (Expression-Sum v0 v1)
    ≡ content_text (codes "Sum") ((pair_codec (codec_as (λ (x : Box Expression Global). x.value) expression_ron) (codec_as (λ (x : Box Expression Global). x.value) expression_ron)).canonical.text d (v0, v1))
expression_ron_text_sum d v0 v1 =
    text_seen expression_ron_nested 128 d (Expression-Sum v0 v1) (Later (Later (v0, v1))) (expression_view_sum v0 v1)

pub ruleset expression_ron_texts = (expression_ron_text_number, expression_ron_text_negated, expression_ron_text_sum)
