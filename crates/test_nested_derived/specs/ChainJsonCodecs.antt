-- Written by derive_files: types that contain themselves, and their codecs.
use Rattle.std.specs.Prelude.{◌≡◌, ℕ, refl, codes}
use Rattle.std.proofs.Common.{◌∙◌}
use Rattle.nano_value.specs.Meaning.{Meaning, Agrees, number}
use Rattle.nano_schema_levels.proofs.StepsLaws.{by_option, later_depth}
use Rattle.nano_levels.specs.Layers.{Layer, Nested}
use Rattle.nano_levels.proofs.LayersLaws.{itself_layer}
use Rattle.nano_levels.proofs.LevelsLaws.{level, limited}
use Rattle.nano_schema_levels.specs.FieldLayers.{FieldsLayer}
use Rattle.nano_schema_levels.proofs.FieldLayersLaws.{fields_pair_layer, optional_layer, other_fields, struct_layer}
use Rattle.nano_schema_levels.proofs.LegalLevelsLaws.{agree_through, legal_as, nested_agrees}
use Rattle.nano_schema_levels.proofs.PartLaws.{seen_layer}
use Rattle.nano_bin_nested.proofs.LegalLaws.{nested_agrees as bin_agrees}
use Rattle.nano_json.specs.Codec.{Codec}
use Rattle.nano_json_tokens.specs.Cut.{json_grammar}
use Rattle.nano_json_tokens.proofs.JsonLaws.{json}
use Rattle.nano_json_schema.specs.FieldCodecs.{plain_names, json_fields, required_field, u32_codec}
use Rattle.test_nested_derived.specs.declared.chain.Chain.{Chain}
use Rattle.test_nested_derived.specs.declared.chain.Chain.TheOpen.{Chain-F}
use Rattle.test_nested_derived.specs.declared.chain.Chain.TheViews.{out-Chain}
use Rattle.test_nested_derived.specs.declared.chain.Chain.TheFolds.{map-Chain, fold_out-Chain}
use Rattle.test_nested_derived.specs.ChainCodecs.{ChainContent, chain_opened, chain_view, chain_means, chain_means_step}
use Rattle.test_nested_derived.specs.ChainCodecs.{chain_depth, chain_depth_step}
use Rattle.test_nested_derived.specs.ChainCodecs.{chain_step, chain_nested, chain_codec}

-- ==== Chain: the layer around the values in it

abbrev pub chain_json_fields : FieldsLayer json_fields Chain (ChainContent Chain)
chain_json_fields =
    fields_pair_layer (other_fields json_fields (required_field (codes "number") u32_codec)) (optional_layer json_fields (codes "next") (seen_layer (λ x. x.value) itself_layer))

abbrev pub chain_json_layer : Layer json json_grammar Chain (ChainContent Chain)
chain_json_layer = struct_layer chain_json_fields (λ f. plain_names refl) (λ f. refl)

pub chain_json_means_opened : (y : Chain-F Chain)
    → chain_means_step (map-Chain Chain Meaning chain_means y)
    ≡ chain_json_layer.means chain_means (chain_opened y)
chain_json_means_opened y =
    by_option (λ o. chain_means_step (map-Chain Chain Meaning chain_means (record { number = y.number; next = o }))
    ≡ chain_json_layer.means chain_means (chain_opened {X = Chain} (record { number = y.number; next = o })))
    refl (λ x1. refl)
    y.next

pub chain_json_depth_opened : (y : Chain-F Chain)
    → chain_depth_step (map-Chain Chain ℕ chain_depth y)
    ≡ chain_json_layer.deep chain_depth (chain_opened y)
chain_json_depth_opened y =
    by_option (λ o. chain_depth_step (map-Chain Chain ℕ chain_depth (record { number = y.number; next = o }))
    ≡ chain_json_layer.deep chain_depth (chain_opened {X = Chain} (record { number = y.number; next = o })))
    refl (λ x1. later_depth refl)
    y.next

abbrev pub chain_json_nested : Nested json json_grammar Chain
chain_json_nested = record {
  Seen = ChainContent Chain;
  layer = chain_json_layer;
  view = chain_view;
  means = chain_means;
  depth = chain_depth;
  means_is = λ x. fold_out-Chain Meaning chain_means_step x ∙ chain_json_means_opened (out-Chain x);
  depth_is = λ x. fold_out-Chain ℕ chain_depth_step x ∙ chain_json_depth_opened (out-Chain x);
}

-- those of at most so many levels
abbrev pub chain_json_at : ℕ → Codec Chain
chain_json_at = level chain_json_nested

pub chain_json_agrees : Agrees chain_means chain_codec.encoding.legal chain_means
    (limited chain_json_nested 128).encoding.legal
chain_json_agrees =
    agree_through (bin_agrees chain_nested chain_step (λ f. refl))
    (nested_agrees chain_json_nested chain_step (λ f. refl) 128)

-- those that are read, and what is legal in the words of the format before
abbrev pub chain_json : Codec Chain
chain_json = legal_as (limited chain_json_nested 128) chain_json_agrees
