-- Written by derive_files: types that contain themselves, and their codecs.
use Rattle.std.specs.Prelude.{◌≡◌, ℕ, suc, refl, Box, Option}
use Rattle.std.specs.Global.{Global}
use Rattle.std.specs.Option.{option_map}
use Rattle.std.proofs.Common.{◌∙◌}
use Rattle.nano_value.specs.Meaning.{Meaning, number, whole, optional, paired, LegalUnsigned, LegalOption, LegalPair}
use Rattle.nano_schema_levels.specs.LegalLevels.{LegalStep}
use Rattle.nano_schema_levels.specs.Depths.{held_depth}
use Rattle.nano_schema_levels.proofs.StepsLaws.{by_option}
use Rattle.nano_bin_bytes.specs.Codec.{Codec}
use Rattle.nano_bin.specs.ScalarCodecs.{u32_codec}
use Rattle.nano_bin_levels.specs.Layers.{Layer, Nested}
use Rattle.nano_bin_levels.proofs.LayersLaws.{itself_layer, next_layer, seen_layer}
use Rattle.nano_bin_levels.proofs.OptionsLaws.{option_layer}
use Rattle.nano_bin_levels.proofs.LevelsLaws.{nested_codec}
use Rattle.test_nested_derived.specs.declared.chain.Chain.{Chain}
use Rattle.test_nested_derived.specs.declared.chain.Chain.TheOpen.{Chain-F}
use Rattle.test_nested_derived.specs.declared.chain.Chain.TheViews.{out-Chain}
use Rattle.test_nested_derived.specs.declared.chain.Chain.TheFolds.{map-Chain, fold-Chain, fold_out-Chain}

-- ==== Chain: what a value is seen as

abbrev pub ChainContent : Type 0 → Type 0
ChainContent X = ℕ × Option (Box X Global)

abbrev pub chain_opened : {X : Type 0} → Chain-F X → ChainContent X
chain_opened y = (y.number, y.next)

abbrev pub chain_view : Chain → ChainContent Chain
chain_view x = chain_opened (out-Chain x)

-- ---- what it means, and how deep it is

abbrev pub chain_means_step : Chain-F Meaning → Meaning
chain_means_step y = paired (whole y.number, optional (option_map (λ x. x.value) y.next))

abbrev pub chain_means : Chain → Meaning
chain_means = fold-Chain Meaning chain_means_step

abbrev pub chain_depth_step : Chain-F ℕ → ℕ
chain_depth_step y = held_depth (λ x. suc x.value) y.next

abbrev pub chain_depth : Chain → ℕ
chain_depth = fold-Chain ℕ chain_depth_step

-- ---- which meanings are legal, given those that are of the values in it

abbrev pub chain_step : LegalStep
chain_step P = LegalPair (LegalUnsigned 32) (LegalOption P)

-- ---- as bytes: the layer around the values in it, and the codec

abbrev pub chain_layer : Layer Chain (ChainContent Chain)
chain_layer = next_layer u32_codec (option_layer (seen_layer (λ x. x.value) itself_layer))

pub chain_means_opened : (y : Chain-F Chain)
    → chain_means_step (map-Chain Chain Meaning chain_means y)
    ≡ chain_layer.means chain_means (chain_opened y)
chain_means_opened y =
    by_option (λ o. chain_means_step (map-Chain Chain Meaning chain_means (record { number = y.number; next = o }))
    ≡ chain_layer.means chain_means (chain_opened {X = Chain} (record { number = y.number; next = o })))
    refl (λ x1. refl)
    y.next

pub chain_depth_opened : (y : Chain-F Chain)
    → chain_depth_step (map-Chain Chain ℕ chain_depth y)
    ≡ chain_layer.deep chain_depth (chain_opened y)
chain_depth_opened y =
    by_option (λ o. chain_depth_step (map-Chain Chain ℕ chain_depth (record { number = y.number; next = o }))
    ≡ chain_layer.deep chain_depth (chain_opened {X = Chain} (record { number = y.number; next = o })))
    refl (λ x1. refl)
    y.next

abbrev pub chain_nested : Nested Chain
chain_nested = record {
  Seen = ChainContent Chain;
  layer = chain_layer;
  view = chain_view;
  means = chain_means;
  depth = chain_depth;
  means_is = λ x. fold_out-Chain Meaning chain_means_step x ∙ chain_means_opened (out-Chain x);
  depth_is = λ x. fold_out-Chain ℕ chain_depth_step x ∙ chain_depth_opened (out-Chain x);
}

abbrev pub chain_codec : Codec Chain
chain_codec = nested_codec chain_nested
