-- Written by derive_files: what is proved of types that contain themselves.
use Rattle.std.specs.Prelude.{◌≡◌, ◌++◌, map, refl, Box, Option, Vec}
use Rattle.std.specs.Global.{Global}
use Rattle.std.specs.Option.{option_map}
use Rattle.std.proofs.Common.{append_assoc, inl, inr, rules}
use Rattle.nano_value.specs.Meaning.{nothing, optional, listed, paired}
use Rattle.nano_schema.specs.declared.choices.Either.TheVariants.{First, Later}
use Rattle.nano_bin_bytes.specs.BaseCodecs.{codec_as}
use Rattle.nano_bin_bytes.specs.Scalars.{little_endian}
use Rattle.nano_bin.specs.ScalarCodecs.{unit_codec}
use Rattle.nano_bin.specs.ContainerCodecs.{list_codec, option_codec}
use Rattle.nano_bin_nested.proofs.NestedLaws.{seen_legal, written_seen}
use Rattle.test_nested_parts.specs.declared.plan.Plan.{Plan}
use Rattle.test_nested_parts.specs.PlanCodecs.{plan_view, plan_means, plan_nested, plan_codec}
use Rattle.test_nested_parts.specs.declared.plan.Plan.{the_lemmas}
use Rattle.test_nested_parts.specs.declared.plan.Plan.{End as Plan-End}
use Rattle.test_nested_parts.specs.declared.plan.Plan.{Go as Plan-Go}
use Rattle.test_nested_parts.specs.declared.plan.Plan.{Choose as Plan-Choose}
use Rattle.test_nested_parts.specs.declared.scene.Scene.{Scene}
use Rattle.test_nested_parts.specs.contracts.scene.derived.SceneValue.TheImpl.{ghosts as scene_value}
use Rattle.test_nested_parts.specs.PlanCodecs.{scene_part}

-- ==== Plan

pub plan_view_end : plan_view Plan-End ≡ First (tt {0})
plan_view_end = search (rules, the_lemmas)

pub plan_written_end : plan_codec.canonical.written Plan-End
    ≡ little_endian 2 0
    ++ unit_codec.canonical.written (tt {0})
plan_written_end =
    written_seen plan_nested Plan-End (First (tt {0})) plan_view_end

pub plan_legal_end : plan_codec.encoding.legal (plan_means Plan-End)
plan_legal_end =
    seen_legal plan_nested Plan-End (First (tt {0})) plan_view_end
    (inl (record { part = nothing; has = refl; is = refl }))

pub plan_view_go : (v0 : Scene)
    → (v1 : Box Plan Global)
    → plan_view (Plan-Go v0 v1) ≡ Later (First (v0, v1))
plan_view_go v0 v1 = search (rules, the_lemmas)

pub plan_written_go : (v0 : Scene)
    → (v1 : Box Plan Global)
    → plan_codec.canonical.written (Plan-Go v0 v1)
    ≡ little_endian 2 1
    ++ (scene_part.canonical.written v0
    ++ (codec_as (λ (x : Box Plan Global). x.value) plan_codec).canonical.written v1)
plan_written_go v0 v1 =
    written_seen plan_nested (Plan-Go v0 v1) (Later (First (v0, v1))) (plan_view_go v0 v1)

pub plan_legal_go : (v0 : Scene)
    → (v1 : Box Plan Global)
    → scene_part.encoding.legal (scene_value.means v0)
    → (codec_as (λ (x : Box Plan Global). x.value) plan_codec).encoding.legal (plan_means v1.value)
    → plan_codec.encoding.legal (plan_means (Plan-Go v0 v1))
plan_legal_go v0 v1 h0 h1 =
    seen_legal plan_nested (Plan-Go v0 v1) (Later (First (v0, v1))) (plan_view_go v0 v1)
    (inr (inl (record { part = paired (scene_value.means v0, plan_means v1.value); has = (record { part = (scene_value.means v0, plan_means v1.value); has = (h0, h1); is = refl }); is = refl })))

pub plan_view_choose : (v0 : Option Scene)
    → (v1 : Vec Plan Global)
    → plan_view (Plan-Choose v0 v1) ≡ Later (Later (v0, v1))
plan_view_choose v0 v1 = search (rules, the_lemmas)

pub plan_written_choose : (v0 : Option Scene)
    → (v1 : Vec Plan Global)
    → plan_codec.canonical.written (Plan-Choose v0 v1)
    ≡ little_endian 2 2
    ++ ((option_codec scene_part).canonical.written v0
    ++ (codec_as (λ (x : Vec Plan Global). x.items) (list_codec plan_codec)).canonical.written v1)
plan_written_choose v0 v1 =
    written_seen plan_nested (Plan-Choose v0 v1) (Later (Later (v0, v1))) (plan_view_choose v0 v1)

pub plan_legal_choose : (v0 : Option Scene)
    → (v1 : Vec Plan Global)
    → (option_codec scene_part).encoding.legal (optional (option_map scene_value.means v0))
    → (codec_as (λ (x : Vec Plan Global). x.items) (list_codec plan_codec)).encoding.legal (listed (map plan_means v1.items))
    → plan_codec.encoding.legal (plan_means (Plan-Choose v0 v1))
plan_legal_choose v0 v1 h0 h1 =
    seen_legal plan_nested (Plan-Choose v0 v1) (Later (Later (v0, v1))) (plan_view_choose v0 v1)
    (inr (inr (inl (record { part = paired (optional (option_map scene_value.means v0), listed (map plan_means v1.items)); has = (record { part = (optional (option_map scene_value.means v0), listed (map plan_means v1.items)); has = (h0, h1); is = refl }); is = refl }))))

pub ruleset plan_views = (plan_view_end, plan_view_go, plan_view_choose)

pub ruleset plan_written_laws = (append_assoc, plan_written_end, plan_written_go, plan_written_choose)
