-- Written by derive_files: what is proved of types that contain themselves.
use Rattle.std.specs.Prelude.{◌≡◌, ◌++◌, ℤ, refl, Box}
use Rattle.std.specs.Global.{Global}
use Rattle.std.proofs.Common.{append_assoc, inl, inr, rules}
use Rattle.nano_value.specs.Meaning.{number, paired}
use Rattle.nano_schema.specs.declared.choices.Either.TheVariants.{First, Later}
use Rattle.nano_bin_bytes.specs.BaseCodecs.{codec_as}
use Rattle.nano_bin_bytes.specs.Scalars.{little_endian}
use Rattle.nano_bin.specs.ScalarCodecs.{i64_codec}
use Rattle.nano_bin_nested.proofs.NestedLaws.{seen_legal, written_seen}
use Rattle.test_nested_derived.specs.declared.expression.Expression.{Expression}
use Rattle.test_nested_derived.specs.ExpressionCodecs.{expression_view, expression_means, expression_nested, expression_codec}
use Rattle.test_nested_derived.specs.declared.expression.Expression.{the_lemmas}
use Rattle.test_nested_derived.specs.declared.expression.Expression.{Number as Expression-Number}
use Rattle.test_nested_derived.specs.declared.expression.Expression.{Negated as Expression-Negated}
use Rattle.test_nested_derived.specs.declared.expression.Expression.{Sum as Expression-Sum}

-- ==== Expression

pub expression_view_number : (v : ℤ)
    → expression_view (Expression-Number v) ≡ First v
expression_view_number v = search (rules, the_lemmas)

pub expression_written_number : (v : ℤ)
    → expression_codec.canonical.written (Expression-Number v)
    ≡ little_endian 2 0
    ++ i64_codec.canonical.written v
expression_written_number v =
    written_seen expression_nested (Expression-Number v) (First v) (expression_view_number v)

pub expression_legal_number : (v : ℤ)
    → i64_codec.encoding.legal (number v)
    → expression_codec.encoding.legal (expression_means (Expression-Number v))
expression_legal_number v h0 =
    seen_legal expression_nested (Expression-Number v) (First v) (expression_view_number v)
    (inl (record { part = number v; has = h0; is = refl }))

pub expression_view_negated : (v : Box Expression Global)
    → expression_view (Expression-Negated v) ≡ Later (First v)
expression_view_negated v = search (rules, the_lemmas)

pub expression_written_negated : (v : Box Expression Global)
    → expression_codec.canonical.written (Expression-Negated v)
    ≡ little_endian 2 1
    ++ (codec_as (λ (x : Box Expression Global). x.value) expression_codec).canonical.written v
expression_written_negated v =
    written_seen expression_nested (Expression-Negated v) (Later (First v)) (expression_view_negated v)

pub expression_legal_negated : (v : Box Expression Global)
    → (codec_as (λ (x : Box Expression Global). x.value) expression_codec).encoding.legal (expression_means v.value)
    → expression_codec.encoding.legal (expression_means (Expression-Negated v))
expression_legal_negated v h0 =
    seen_legal expression_nested (Expression-Negated v) (Later (First v)) (expression_view_negated v)
    (inr (inl (record { part = expression_means v.value; has = h0; is = refl })))

pub expression_view_sum : (v0 : Box Expression Global)
    → (v1 : Box Expression Global)
    → expression_view (Expression-Sum v0 v1) ≡ Later (Later (v0, v1))
expression_view_sum v0 v1 = search (rules, the_lemmas)

pub expression_written_sum : (v0 : Box Expression Global)
    → (v1 : Box Expression Global)
    → expression_codec.canonical.written (Expression-Sum v0 v1)
    ≡ little_endian 2 2
    ++ ((codec_as (λ (x : Box Expression Global). x.value) expression_codec).canonical.written v0
    ++ (codec_as (λ (x : Box Expression Global). x.value) expression_codec).canonical.written v1)
expression_written_sum v0 v1 =
    written_seen expression_nested (Expression-Sum v0 v1) (Later (Later (v0, v1))) (expression_view_sum v0 v1)

pub expression_legal_sum : (v0 : Box Expression Global)
    → (v1 : Box Expression Global)
    → (codec_as (λ (x : Box Expression Global). x.value) expression_codec).encoding.legal (expression_means v0.value)
    → (codec_as (λ (x : Box Expression Global). x.value) expression_codec).encoding.legal (expression_means v1.value)
    → expression_codec.encoding.legal (expression_means (Expression-Sum v0 v1))
expression_legal_sum v0 v1 h0 h1 =
    seen_legal expression_nested (Expression-Sum v0 v1) (Later (Later (v0, v1))) (expression_view_sum v0 v1)
    (inr (inr (inl (record { part = paired (expression_means v0.value, expression_means v1.value); has = (record { part = (expression_means v0.value, expression_means v1.value); has = (h0, h1); is = refl }); is = refl }))))

pub ruleset expression_views = (expression_view_number, expression_view_negated, expression_view_sum)

pub ruleset expression_written_laws = (append_assoc, expression_written_number, expression_written_negated, expression_written_sum)
