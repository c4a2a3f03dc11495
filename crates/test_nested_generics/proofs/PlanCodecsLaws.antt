-- Written by derive_files: what is proved of types that contain themselves.
use Rattle.std.specs.Prelude.{◌≡◌, ◌++◌, map, refl, Box, Option, Vec}
use Rattle.std.specs.Global.{Global}
use Rattle.std.specs.Option.{option_map}
use Rattle.std.proofs.Common.{append_assoc, inl, inr, rules}
use Rattle.nano_value.specs.Meaning.{nothing, optional, listed, paired}
use Rattle.nano_schema.specs.declared.choices.Either.TheVariants.{First, Later}
use Rattle.nano_bin_bytes.specs.Codec.{Codec}
use Rattle.nano_bin_bytes.specs.BaseCodecs.{codec_as}
use Rattle.nano_bin_bytes.specs.Scalars.{little_endian}
use Rattle.nano_bin.specs.ScalarCodecs.{unit_codec}
use Rattle.nano_bin.specs.ContainerCodecs.{list_codec, option_codec}
use Rattle.nano_bin_nested.proofs.NestedLaws.{seen_legal, written_seen}
use Rattle.test_nested_generics.specs.declared.plan.Plan.{Plan}
use Rattle.test_nested_generics.specs.PlanCodecs.{plan_view, plan_means, plan_nested, plan_codec}
use Rattle.test_nested_generics.specs.declared.plan.Plan.{the_lemmas}
use Rattle.test_nested_generics.specs.declared.plan.Plan.{Nothing as Plan-Nothing}
use Rattle.test_nested_generics.specs.declared.plan.Plan.{One as Plan-One}
use Rattle.test_nested_generics.specs.declared.plan.Plan.{Many as Plan-Many}
use Rattle.test_nested_generics.specs.declared.plan.Plan.{Both as Plan-Both}
use Rattle.test_nested_generics.specs.declared.plan.Plan.{Step as Plan-Step}

-- ==== Plan

pub plan_view_nothing : (T : Type 0) → plan_view {T = T} Plan-Nothing ≡ First (tt {0})
plan_view_nothing T = search (rules, the_lemmas)

pub plan_view_one : {T : Type 0} → (v : T)
    → plan_view (Plan-One v) ≡ Later (First v)
plan_view_one {T} v = search (rules, the_lemmas)

pub plan_view_many : {T : Type 0} → (v : Vec T Global)
    → plan_view (Plan-Many v) ≡ Later (Later (First v))
plan_view_many {T} v = search (rules, the_lemmas)

pub plan_view_both : {T : Type 0} → (v0 : Box (Plan T) Global)
    → (v1 : Option T)
    → plan_view (Plan-Both v0 v1) ≡ Later (Later (Later (First (v0, v1))))
plan_view_both {T} v0 v1 = search (rules, the_lemmas)

pub plan_view_step : {T : Type 0} → (v0 : T)
    → (v1 : Vec (Plan T) Global)
    → plan_view (Plan-Step v0 v1) ≡ Later (Later (Later (Later (v0, v1))))
plan_view_step {T} v0 v1 = search (rules, the_lemmas)

module _ {T : Type 0} (t_bin : Codec T) where
  pub plan_written_nothing : (plan_codec t_bin).canonical.written Plan-Nothing
      ≡ little_endian 2 0
      ++ unit_codec.canonical.written (tt {0})
  plan_written_nothing =
      written_seen (plan_nested t_bin) Plan-Nothing (First (tt {0})) (plan_view_nothing T)

  pub plan_legal_nothing : (plan_codec t_bin).encoding.legal ((plan_means t_bin.canonical.means) Plan-Nothing)
  plan_legal_nothing =
      seen_legal (plan_nested t_bin) Plan-Nothing (First (tt {0})) (plan_view_nothing T)
      (inl (record { part = nothing; has = refl; is = refl }))

  pub plan_written_one : (v : T)
      → (plan_codec t_bin).canonical.written (Plan-One v)
      ≡ little_endian 2 1
      ++ t_bin.canonical.written v
  plan_written_one v =
      written_seen (plan_nested t_bin) (Plan-One v) (Later (First v)) (plan_view_one v)

  pub plan_legal_one : (v : T)
      → t_bin.encoding.legal (t_bin.canonical.means v)
      → (plan_codec t_bin).encoding.legal ((plan_means t_bin.canonical.means) (Plan-One v))
  plan_legal_one v h0 =
      seen_legal (plan_nested t_bin) (Plan-One v) (Later (First v)) (plan_view_one v)
      (inr (inl (record { part = t_bin.canonical.means v; has = h0; is = refl })))

  pub plan_written_many : (v : Vec T Global)
      → (plan_codec t_bin).canonical.written (Plan-Many v)
      ≡ little_endian 2 2
      ++ (codec_as (λ (x : Vec T Global). x.items) (list_codec t_bin)).canonical.written v
  plan_written_many v =
      written_seen (plan_nested t_bin) (Plan-Many v) (Later (Later (First v))) (plan_view_many v)

  pub plan_legal_many : (v : Vec T Global)
      → (codec_as (λ (x : Vec T Global). x.items) (list_codec t_bin)).encoding.legal (listed (map t_bin.canonical.means v.items))
      → (plan_codec t_bin).encoding.legal ((plan_means t_bin.canonical.means) (Plan-Many v))
  plan_legal_many v h0 =
      seen_legal (plan_nested t_bin) (Plan-Many v) (Later (Later (First v))) (plan_view_many v)
      (inr (inr (inl (record { part = listed (map t_bin.canonical.means v.items); has = h0; is = refl }))))

  pub plan_written_both : (v0 : Box (Plan T) Global)
      → (v1 : Option T)
      → (plan_codec t_bin).canonical.written (Plan-Both v0 v1)
      ≡ little_endian 2 3
      ++ ((codec_as (λ (x : Box (Plan T) Global). x.value) (plan_codec t_bin)).canonical.written v0
      ++ (option_codec t_bin).canonical.written v1)
  plan_written_both v0 v1 =
      written_seen (plan_nested t_bin) (Plan-Both v0 v1) (Later (Later (Later (First (v0, v1))))) (plan_view_both v0 v1)

  pub plan_legal_both : (v0 : Box (Plan T) Global)
      → (v1 : Option T)
      → (codec_as (λ (x : Box (Plan T) Global). x.value) (plan_codec t_bin)).encoding.legal ((plan_means t_bin.canonical.means) v0.value)
      → (option_codec t_bin).encoding.legal (optional (option_map t_bin.canonical.means v1))
      → (plan_codec t_bin).encoding.legal ((plan_means t_bin.canonical.means) (Plan-Both v0 v1))
  plan_legal_both v0 v1 h0 h1 =
      seen_legal (plan_nested t_bin) (Plan-Both v0 v1) (Later (Later (Later (First (v0, v1))))) (plan_view_both v0 v1)
      (inr (inr (inr (inl (record { part = paired ((plan_means t_bin.canonical.means) v0.value, optional (option_map t_bin.canonical.means v1)); has = (record { part = ((plan_means t_bin.canonical.means) v0.value, optional (option_map t_bin.canonical.means v1)); has = (h0, h1); is = refl }); is = refl })))))

  pub plan_written_step : (v0 : T)
      → (v1 : Vec (Plan T) Global)
      → (plan_codec t_bin).canonical.written (Plan-Step v0 v1)
      ≡ little_endian 2 4
      ++ (t_bin.canonical.written v0
      ++ (codec_as (λ (x : Vec (Plan T) Global). x.items) (list_codec (plan_codec t_bin))).canonical.written v1)
  plan_written_step v0 v1 =
      written_seen (plan_nested t_bin) (Plan-Step v0 v1) (Later (Later (Later (Later (v0, v1))))) (plan_view_step v0 v1)

  pub plan_legal_step : (v0 : T)
      → (v1 : Vec (Plan T) Global)
      → t_bin.encoding.legal (t_bin.canonical.means v0)
      → (codec_as (λ (x : Vec (Plan T) Global). x.items) (list_codec (plan_codec t_bin))).encoding.legal (listed (map (plan_means t_bin.canonical.means) v1.items))
      → (plan_codec t_bin).encoding.legal ((plan_means t_bin.canonical.means) (Plan-Step v0 v1))
  plan_legal_step v0 v1 h0 h1 =
      seen_legal (plan_nested t_bin) (Plan-Step v0 v1) (Later (Later (Later (Later (v0, v1))))) (plan_view_step v0 v1)
      (inr (inr (inr (inr (inl (record { part = paired (t_bin.canonical.means v0, listed (map (plan_means t_bin.canonical.means) v1.items)); has = (record { part = (t_bin.canonical.means v0, listed (map (plan_means t_bin.canonical.means) v1.items)); has = (h0, h1); is = refl }); is = refl }))))))

pub ruleset plan_views = (plan_view_nothing, plan_view_one, plan_view_many, plan_view_both, plan_view_step)

pub ruleset plan_written_laws = (append_assoc, plan_written_nothing, plan_written_one, plan_written_many, plan_written_both, plan_written_step)
