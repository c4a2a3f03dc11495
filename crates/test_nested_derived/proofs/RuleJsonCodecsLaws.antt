-- Written by derive_files: what is proved of types that contain themselves.
use Rattle.std.specs.Prelude.{◌≡◌, ℕ, List, codes, Box, Option}
use Rattle.std.specs.Global.{Global}
use Rattle.nano_schema.specs.declared.choices.Either.TheVariants.{First, Later}
use Rattle.nano_grammar.specs.FieldCodec.{WrittenField}
use Rattle.nano_schema_levels.proofs.NestedLaws.{text_seen}
use Rattle.nano_json.specs.Codec.{codec_as}
use Rattle.nano_json_tokens.specs.Token.{Token}
use Rattle.nano_json_tokens.specs.Written.{written_text}
use Rattle.nano_json_schema.specs.FieldCodecs.{optional_field, required_field, single_codec, u8_codec}
use Rattle.nano_json_schema.specs.Variants.{content_text}
use Rattle.test_nested_derived.specs.declared.rule.Rule.{Rule}
use Rattle.test_nested_derived.specs.RuleCodecs.{rule_view}
use Rattle.test_nested_derived.specs.RuleJsonCodecs.{rule_json_nested, rule_json, rule_json_content_when}
use Rattle.test_nested_derived.proofs.RuleCodecsLaws.{rule_view_always, rule_view_from, rule_view_when}
use Rattle.test_nested_derived.specs.declared.rule.Rule.{Always as Rule-Always}
use Rattle.test_nested_derived.specs.declared.rule.Rule.{From as Rule-From}
use Rattle.test_nested_derived.specs.declared.rule.Rule.{When as Rule-When}

-- ==== Rule

pub rule_json_text_always : (d : ℕ)
    → rule_json.canonical.text d Rule-Always
    ≡ written_text (codes "Always")
rule_json_text_always d =
    text_seen rule_json_nested 5 d Rule-Always (First (tt {0})) rule_view_always

pub rule_json_text_from : (d : ℕ)
    → (v : ℕ)
    → rule_json.canonical.text d (Rule-From v)
    ≡ content_text (codes "From") ((single_codec u8_codec).canonical.text d v)
rule_json_text_from d v =
    text_seen rule_json_nested 5 d (Rule-From v) (Later (First v)) (rule_view_from v)

abbrev pub rule_json_field_when_condition : Box Rule Global → List (WrittenField Token)
rule_json_field_when_condition x =
    (required_field (codes "condition") (codec_as (λ (x : Box Rule Global). x.value) rule_json)).canonical.fields x

abbrev pub rule_json_field_when_then : Box Rule Global → List (WrittenField Token)
rule_json_field_when_then x =
    (required_field (codes "then") (codec_as (λ (x : Box Rule Global). x.value) rule_json)).canonical.fields x

abbrev pub rule_json_field_when_otherwise : Option (Box Rule Global) → List (WrittenField Token)
rule_json_field_when_otherwise x =
    (optional_field (codes "otherwise") (codec_as (λ (x : Box Rule Global). x.value) rule_json)).canonical.fields x

pub rule_json_text_when : (d : ℕ)
    → (v0 : Box Rule Global)
    → (v1 : Box Rule Global)
    → (v2 : Option (Box Rule Global))
    → rule_json.canonical.text d (Rule-When v0 v1 v2)
    ≡ content_text (codes "When") ((rule_json_content_when.codec rule_json).canonical.text d (v0, (v1, v2)))
rule_json_text_when d v0 v1 v2 =
    text_seen rule_json_nested 5 d (Rule-When v0 v1 v2) (Later (Later (v0, (v1, v2)))) (rule_view_when v0 v1 v2)

pub ruleset rule_json_texts = (rule_json_text_always, rule_json_text_from, rule_json_text_when)
