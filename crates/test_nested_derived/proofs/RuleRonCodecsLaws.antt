-- Written by derive_files: what is proved of types that contain themselves.
use Rattle.std.specs.Prelude.{◌≡◌, ℕ, List, codes, Box, Option}
use Rattle.std.specs.Global.{Global}
use Rattle.nano_schema.specs.declared.choices.Either.TheVariants.{First, Later}
use Rattle.nano_grammar.specs.FieldCodec.{WrittenField}
use Rattle.nano_schema_levels.proofs.NestedLaws.{text_seen}
use Rattle.std.specs.Prelude.{chars}
use Rattle.nano_ron.specs.Codec.{codec_as}
use Rattle.nano_ron_tokens.specs.Token.{Token}
use Rattle.nano_ron_schema.specs.FieldCodecs.{optional_field, required_field}
use Rattle.nano_ron_schema.specs.VariantCodecs.{single_codec}
use Rattle.nano_ron_schema.specs.Variants.{content_text}
use Rattle.nano_ron_nested.specs.TypeCodecs.{u8_codec}
use Rattle.test_nested_derived.specs.declared.rule.Rule.{Rule}
use Rattle.test_nested_derived.specs.RuleCodecs.{rule_view}
use Rattle.test_nested_derived.specs.RuleRonCodecs.{rule_ron_nested, rule_ron, rule_ron_content_when}
use Rattle.test_nested_derived.proofs.RuleCodecsLaws.{rule_view_always, rule_view_from, rule_view_when}
use Rattle.test_nested_derived.specs.declared.rule.Rule.{Always as Rule-Always}
use Rattle.test_nested_derived.specs.declared.rule.Rule.{From as Rule-From}
use Rattle.test_nested_derived.specs.declared.rule.Rule.{When as Rule-When}

-- ==== Rule

pub rule_ron_text_always : (d : ℕ)
    → rule_ron.canonical.text d Rule-Always
    ≡ chars (codes "Always")
rule_ron_text_always d =
    text_seen rule_ron_nested 5 d Rule-Always (First (tt {0})) rule_view_always

pub rule_ron_text_from : (d : ℕ)
    → (v : ℕ)
    → rule_ron.canonical.text d (Rule-From v)
    ≡ content_text (codes "From") ((single_codec u8_codec).canonical.text d v)
rule_ron_text_from d v =
    text_seen rule_ron_nested 5 d (Rule-From v) (Later (First v)) (rule_view_from v)

abbrev pub rule_ron_field_when_condition : Box Rule Global → List (WrittenField Token)
rule_ron_field_when_condition x =
    (required_field (codes "condition") (codec_as (λ (x : Box Rule Global). x.value) rule_ron)).canonical.fields x

abbrev pub rule_ron_field_when_then : Box Rule Global → List (WrittenField Token)
rule_ron_field_when_then x =
    (required_field (codes "then") (codec_as (λ (x : Box Rule Global). x.value) rule_ron)).canonical.fields x

abbrev pub rule_ron_field_when_otherwise : Option (Box Rule Global) → List (WrittenField Token)
rule_ron_field_when_otherwise x =
    (optional_field (codes "otherwise") (codec_as (λ (x : Box Rule Global). x.value) rule_ron)).canonical.fields x

pub rule_ron_text_when : (d : ℕ)
    → (v0 : Box Rule Global)
    → (v1 : Box Rule Global)
    → (v2 : Option (Box Rule Global))
    → rule_ron.canonical.text d (Rule-When v0 v1 v2)
    ≡ content_text (codes "When") ((rule_ron_content_when.codec rule_ron).canonical.text d (v0, (v1, v2)))
rule_ron_text_when d v0 v1 v2 =
    text_seen rule_ron_nested 5 d (Rule-When v0 v1 v2) (Later (Later (v0, (v1, v2)))) (rule_view_when v0 v1 v2)

pub ruleset rule_ron_texts = (rule_ron_text_always, rule_ron_text_from, rule_ron_text_when)
