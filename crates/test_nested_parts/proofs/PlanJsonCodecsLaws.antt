-- Written by derive_files: what is proved of types that contain themselves.
use Rattle.std.specs.Prelude.{◌≡◌, ℕ, List, codes, Box, Option, Vec}
use Rattle.std.specs.Global.{Global}
use Rattle.nano_schema.specs.declared.choices.Either.TheVariants.{First, Later}
use Rattle.nano_grammar.specs.FieldCodec.{WrittenField}
use Rattle.nano_schema_levels.proofs.NestedLaws.{text_seen}
use Rattle.nano_json.specs.Codec.{codec_as}
use Rattle.nano_json.specs.ContainerCodecs.{list_codec, pair_codec}
use Rattle.nano_json_tokens.specs.Token.{Token}
use Rattle.nano_json_tokens.specs.Written.{written_text}
use Rattle.nano_json_schema.specs.FieldCodecs.{optional_field, required_field}
use Rattle.nano_json_schema.specs.Variants.{content_text}
use Rattle.test_nested_parts.specs.declared.plan.Plan.{Plan}
use Rattle.test_nested_parts.specs.PlanCodecs.{plan_view}
use Rattle.test_nested_parts.specs.PlanJsonCodecs.{plan_json_nested, plan_json, plan_json_content_choose}
use Rattle.test_nested_parts.proofs.PlanCodecsLaws.{plan_view_end, plan_view_go, plan_view_choose}
use Rattle.test_nested_parts.specs.declared.plan.Plan.{End as Plan-End}
use Rattle.test_nested_parts.specs.declared.plan.Plan.{Go as Plan-Go}
use Rattle.test_nested_parts.specs.declared.plan.Plan.{Choose as Plan-Choose}
use Rattle.test_nested_parts.specs.declared.scene.Scene.{Scene}
use Rattle.test_nested_parts.specs.PlanJsonCodecs.{scene_part}

-- ==== Plan

pub plan_json_text_end : (d : ℕ)
    → plan_json.canonical.text d Plan-End
    ≡ written_text (codes "End")
plan_json_text_end d =
    text_seen plan_json_nested 128 d Plan-End (First (tt {0})) plan_view_end

pub plan_json_text_go : (d : ℕ)
    → (v0 : Scene)
    → (v1 : Box Plan Global)
    → plan_json.canonical.text d (Plan-Go v0 v1)
    ≡ content_text (codes "Go") ((pair_codec scene_part (codec_as (λ (x : Box Plan Global). x.value) plan_json)).canonical.text d (v0, v1))
plan_json_text_go d v0 v1 =
    text_seen plan_json_nested 128 d (Plan-Go v0 v1) (Later (First (v0, v1))) (plan_view_go v0 v1)

abbrev pub plan_json_field_choose_at : Option Scene → List (WrittenField Token)
plan_json_field_choose_at x =
    (optional_field (codes "at") scene_part).canonical.fields x

abbrev pub plan_json_field_choose_plans : Vec Plan Global → List (WrittenField Token)
plan_json_field_choose_plans x =
    (required_field (codes "plans") (codec_as (λ (x : Vec Plan Global). x.items) (list_codec plan_json))).canonical.fields x

pub plan_json_text_choose : (d : ℕ)
    → (v0 : Option Scene)
    → (v1 : Vec Plan Global)
    → plan_json.canonical.text d (Plan-Choose v0 v1)
    ≡ content_text (codes "Choose") ((plan_json_content_choose.codec plan_json).canonical.text d (v0, v1))
plan_json_text_choose d v0 v1 =
    text_seen plan_json_nested 128 d (Plan-Choose v0 v1) (Later (Later (v0, v1))) (plan_view_choose v0 v1)

pub ruleset plan_json_texts = (plan_json_text_end, plan_json_text_go, plan_json_text_choose)
