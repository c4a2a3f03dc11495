-- Written by derive_files: types that contain themselves, and their codecs.
use Rattle.std.specs.Prelude.{◌≡◌, ℕ, suc, max, map, refl, true, Box, Option, Vec}
use Rattle.std.specs.Global.{Global}
use Rattle.std.specs.Option.{option_map}
use Rattle.std.proofs.Common.{◌∙◌, inl, inr, lit≤}
use Rattle.nano_value.specs.Meaning.{Meaning, nothing, optional, listed, paired, LegalUnit, LegalOption, LegalList, LegalPair}
use Rattle.nano_value.specs.Sums.{tagged, LegalVariant, variant, no_variants}
use Rattle.nano_meaning.proofs.MeaningLaws.{list_weaker, option_weaker, pair_weaker}
use Rattle.nano_levels.specs.Layers.{greatest}
use Rattle.nano_schema.specs.declared.choices.Either.{Either}
use Rattle.nano_schema.specs.declared.choices.Either.TheVariants.{First, Later}
use Rattle.nano_schema_levels.specs.LegalLevels.{IsWeaker, LegalStep}
use Rattle.nano_schema_levels.proofs.LegalLevelsLaws.{remains}
use Rattle.nano_schema_levels.proofs.StepsLaws.{list_depth}
use Rattle.nano_bin_bytes.specs.Codec.{Codec}
use Rattle.nano_bin_bytes.specs.BaseCodecs.{codec_as}
use Rattle.nano_bin.specs.ScalarCodecs.{unit_codec}
use Rattle.nano_bin.specs.ContainerCodecs.{list_codec, option_codec}
use Rattle.nano_bin_levels.specs.Layers.{Layer, Nested}
use Rattle.nano_bin_levels.proofs.LayersLaws.{itself_layer, next_layer, other_layer, seen_layer}
use Rattle.nano_bin_levels.proofs.ListsLaws.{list_layer}
use Rattle.nano_bin_levels.proofs.LevelsLaws.{nested_codec}
use Rattle.nano_bin_nested.specs.ChoiceLayerCodecs.{ChoiceLayer, choice_layer, last_variant, next_variant}
use Rattle.nano_bin_nested.specs.PairLayerCodecs.{pair_layer}
use Rattle.test_nested_generics.specs.declared.plan.Plan.{Plan}
use Rattle.test_nested_generics.specs.declared.plan.Plan.TheOpen.{Plan-F}
use Rattle.test_nested_generics.specs.declared.plan.Plan.TheViews.{out-Plan}
use Rattle.test_nested_generics.specs.declared.plan.Plan.TheFolds.{map-Plan, fold-Plan, fold_out-Plan}

-- ==== Plan: what a value is seen as

abbrev pub PlanContent : Type 0 → Type 0 → Type 0
PlanContent T X =
    Either (Unit {0})
    (Either T
    (Either (Vec T Global)
    (Either (Box X Global × Option T)
    (T × Vec X Global))))

abbrev pub plan_opened : {T : Type 0} → {X : Type 0} → Plan-F T X → PlanContent T X
plan_opened {T} Plan-F.Nothing = First (tt {0})
plan_opened {T} (Plan-F.One v) = Later (First v)
plan_opened {T} (Plan-F.Many v) = Later (Later (First v))
plan_opened {T} (Plan-F.Both v0 v1) = Later (Later (Later (First (v0, v1))))
plan_opened {T} (Plan-F.Step v0 v1) = Later (Later (Later (Later (v0, v1))))

abbrev pub plan_view : {T : Type 0} → (Plan T) → PlanContent T (Plan T)
plan_view {T} x = plan_opened (out-Plan T x)

-- ---- what it means, and how deep it is

abbrev pub plan_means_step : {T : Type 0} → (T → Meaning) → Plan-F T Meaning → Meaning
plan_means_step {T} t_means Plan-F.Nothing = tagged 0 nothing
plan_means_step {T} t_means (Plan-F.One v) = tagged 1 (t_means v)
plan_means_step {T} t_means (Plan-F.Many v) = tagged 2 (listed (map t_means v.items))
plan_means_step {T} t_means (Plan-F.Both v0 v1) =
    tagged 3 (paired (v0.value, optional (option_map t_means v1)))
plan_means_step {T} t_means (Plan-F.Step v0 v1) = tagged 4 (paired (t_means v0, listed v1.items))

abbrev pub plan_means : {T : Type 0} → (T → Meaning) → (Plan T) → Meaning
plan_means {T} t_means = fold-Plan T Meaning (plan_means_step t_means)

abbrev pub plan_depth_step : {T : Type 0} → Plan-F T ℕ → ℕ
plan_depth_step {T} Plan-F.Nothing = 0
plan_depth_step {T} (Plan-F.One v) = 0
plan_depth_step {T} (Plan-F.Many v) = 0
plan_depth_step {T} (Plan-F.Both v0 v1) = max (suc v0.value) 0
plan_depth_step {T} (Plan-F.Step v0 v1) = greatest (map (λ x. suc x) v1.items)

abbrev pub plan_depth : {T : Type 0} → (Plan T) → ℕ
plan_depth {T} = fold-Plan T ℕ plan_depth_step

-- ---- which meanings are legal, given those that are of the values in it

abbrev pub plan_step : (Meaning → Type 0) → LegalStep
plan_step t_legal P =
    LegalVariant (variant LegalUnit (variant t_legal (variant (LegalList t_legal) (variant (LegalPair P (LegalOption t_legal)) (variant (LegalPair t_legal (LegalList P)) no_variants)))))

pub plan_weaker : {PT QT : Meaning → Type 0}
    → ((m : Meaning) → PT m → QT m)
    → IsWeaker (plan_step PT) (plan_step QT)
plan_weaker t X Y x m (inl h) =
    (inl (record { part = h.part; has = (remains LegalUnit) h.part h.has; is = h.is }))
plan_weaker t X Y x m (inr (inl h)) =
    (inr (inl (record { part = h.part; has = (t) h.part h.has; is = h.is })))
plan_weaker t X Y x m (inr (inr (inl h))) =
    (inr (inr (inl (record { part = h.part; has = (list_weaker _ _ t) h.part h.has; is = h.is }))))
plan_weaker t X Y x m (inr (inr (inr (inl h)))) =
    (inr (inr (inr (inl (record { part = h.part; has = (pair_weaker _ _ _ _ x (option_weaker _ _ t)) h.part h.has; is = h.is })))))
plan_weaker t X Y x m (inr (inr (inr (inr (inl h))))) =
    (inr (inr (inr (inr (inl (record { part = h.part; has = (pair_weaker _ _ _ _ t (list_weaker _ _ x)) h.part h.has; is = h.is }))))))
plan_weaker t X Y x m (inr (inr (inr (inr (inr h))))) = absurd h

module _ {T : Type 0} (t_bin : Codec T) where
  -- ---- as bytes: the layer around the values in it, and the codec

  abbrev pub plan_variants : ChoiceLayer (Plan T) (PlanContent T (Plan T))
  plan_variants =
      next_variant (other_layer unit_codec)
      (next_variant (other_layer t_bin)
      (next_variant (other_layer (codec_as (λ (x : Vec T Global). x.items) (list_codec t_bin)))
      (next_variant (pair_layer (seen_layer (λ x. x.value) itself_layer) (other_layer (option_codec t_bin)))
      (last_variant (next_layer t_bin (seen_layer (λ x. x.items) (list_layer itself_layer)))))))

  abbrev pub plan_layer : Layer (Plan T) (PlanContent T (Plan T))
  plan_layer = choice_layer plan_variants (λ f. lit≤ tt)

  pub plan_means_opened : (y : Plan-F T (Plan T))
      → (plan_means_step t_bin.canonical.means) (map-Plan T (Plan T) Meaning (plan_means t_bin.canonical.means) y)
      ≡ plan_layer.means (plan_means t_bin.canonical.means) (plan_opened y)
  plan_means_opened Plan-F.Nothing = refl
  plan_means_opened (Plan-F.One v) = refl
  plan_means_opened (Plan-F.Many v) = refl
  plan_means_opened (Plan-F.Both v0 v1) = refl
  plan_means_opened (Plan-F.Step v0 v1) = refl

  pub plan_depth_opened : (y : Plan-F T (Plan T))
      → plan_depth_step (map-Plan T (Plan T) ℕ plan_depth y)
      ≡ plan_layer.deep plan_depth (plan_opened y)
  plan_depth_opened Plan-F.Nothing = refl
  plan_depth_opened (Plan-F.One v) = refl
  plan_depth_opened (Plan-F.Many v) = refl
  plan_depth_opened (Plan-F.Both v0 v1) = refl
  plan_depth_opened (Plan-F.Step v0 v1) = list_depth _ _ _ (λ x. refl) v1.items

  abbrev pub plan_nested : Nested (Plan T)
  plan_nested = record {
    Seen = PlanContent T (Plan T);
    layer = plan_layer;
    view = plan_view;
    means = (plan_means t_bin.canonical.means);
    depth = plan_depth;
    means_is = λ x. fold_out-Plan T Meaning (plan_means_step t_bin.canonical.means) x ∙ plan_means_opened (out-Plan T x);
    depth_is = λ x. fold_out-Plan T ℕ plan_depth_step x ∙ plan_depth_opened (out-Plan T x);
  }

  abbrev pub plan_codec : Codec (Plan T)
  plan_codec = nested_codec plan_nested

  pub plan_is_read : t_bin.is_decodable ≡ true → plan_codec.is_decodable ≡ true
  plan_is_read t_read = rw (t_read) refl
