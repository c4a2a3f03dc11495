-- Written by derive_files: what is proved of types that contain themselves.
use Rattle.std.specs.Prelude.{◌≡◌, ℕ, List, codes, Box, Option, Vec}
use Rattle.std.specs.Global.{Global}
use Rattle.nano_schema.specs.declared.choices.Either.TheVariants.{First, Later}
use Rattle.nano_grammar.specs.FieldCodec.{WrittenField}
use Rattle.nano_schema_levels.proofs.NestedLaws.{text_seen}
use Rattle.nano_json.specs.Codec.{Codec, codec_as}
use Rattle.nano_json.specs.ContainerCodecs.{list_codec, option_codec, pair_codec}
use Rattle.nano_json_tokens.specs.Token.{Token}
use Rattle.nano_json_tokens.specs.Written.{written_text}
use Rattle.nano_json_schema.specs.FieldCodecs.{required_field, single_codec}
use Rattle.nano_json_schema.specs.Variants.{content_text}
use Rattle.test_nested_generics.specs.declared.plan.Plan.{Plan}
use Rattle.test_nested_generics.specs.PlanCodecs.{plan_view}
use Rattle.test_nested_generics.specs.PlanJsonCodecs.{plan_json_nested, plan_json, plan_json_content_step}
use Rattle.test_nested_generics.proofs.PlanCodecsLaws.{plan_view_nothing, plan_view_one, plan_view_many, plan_view_both, plan_view_step}
use Rattle.test_nested_generics.specs.declared.plan.Plan.{Nothing as Plan-Nothing}
use Rattle.test_nested_generics.specs.declared.plan.Plan.{One as Plan-One}
use Rattle.test_nested_generics.specs.declared.plan.Plan.{Many as Plan-Many}
use Rattle.test_nested_generics.specs.declared.plan.Plan.{Both as Plan-Both}
use Rattle.test_nested_generics.specs.declared.plan.Plan.{Step as Plan-Step}

module _ {T : Type 0} (t_json : Codec T) where
  -- ==== Plan

  pub plan_json_text_nothing : (d : ℕ)
      → (plan_json t_json).canonical.text d Plan-Nothing
      ≡ written_text (codes "Nothing")
  plan_json_text_nothing d =
      text_seen (plan_json_nested t_json) 128 d Plan-Nothing (First (tt {0})) (plan_view_nothing T)

  pub plan_json_text_one : (d : ℕ)
      → (v : T)
      → (plan_json t_json).canonical.text d (Plan-One v)
      ≡ content_text (codes "One") ((single_codec t_json).canonical.text d v)
  plan_json_text_one d v =
      text_seen (plan_json_nested t_json) 128 d (Plan-One v) (Later (First v)) (plan_view_one v)

  pub plan_json_text_many : (d : ℕ)
      → (v : Vec T Global)
      → (plan_json t_json).canonical.text d (Plan-Many v)
      ≡ content_text (codes "Many") ((single_codec (codec_as (λ (x : Vec T Global). x.items) (list_codec t_json))).canonical.text d v)
  plan_json_text_many d v =
      text_seen (plan_json_nested t_json) 128 d (Plan-Many v) (Later (Later (First v))) (plan_view_many v)

  pub plan_json_text_both : (d : ℕ)
      → (v0 : Box (Plan T) Global)
      → (v1 : Option T)
      → (plan_json t_json).canonical.text d (Plan-Both v0 v1)
      ≡ content_text (codes "Both") ((pair_codec (codec_as (λ (x : Box (Plan T) Global). x.value) (plan_json t_json)) (option_codec t_json)).canonical.text d (v0, v1))
  plan_json_text_both d v0 v1 =
      text_seen (plan_json_nested t_json) 128 d (Plan-Both v0 v1) (Later (Later (Later (First (v0, v1))))) (plan_view_both v0 v1)

  abbrev pub plan_json_field_step_item : T → List (WrittenField Token)
  plan_json_field_step_item x =
      (required_field (codes "item") t_json).canonical.fields x

  abbrev pub plan_json_field_step_next : Vec (Plan T) Global → List (WrittenField Token)
  plan_json_field_step_next x =
      (required_field (codes "next") (codec_as (λ (x : Vec (Plan T) Global). x.items) (list_codec (plan_json t_json)))).canonical.fields x

  pub plan_json_text_step : (d : ℕ)
      → (v0 : T)
      → (v1 : Vec (Plan T) Global)
      → (plan_json t_json).canonical.text d (Plan-Step v0 v1)
      ≡ content_text (codes "Step") (((plan_json_content_step t_json).codec (plan_json t_json)).canonical.text d (v0, v1))
  plan_json_text_step d v0 v1 =
      text_seen (plan_json_nested t_json) 128 d (Plan-Step v0 v1) (Later (Later (Later (Later (v0, v1))))) (plan_view_step v0 v1)

pub ruleset plan_json_texts = (plan_json_text_nothing, plan_json_text_one, plan_json_text_many, plan_json_text_both, plan_json_text_step)
