-- Written by derive_files: what is proved of types that contain themselves.
use Rattle.std.specs.Prelude.{◌≡◌, ℕ, List, refl, codes, Box}
use Rattle.std.specs.Global.{Global}
use Rattle.nano_grammar.specs.FieldCodec.{WrittenField, fields_text}
use Rattle.nano_schema_levels.proofs.NestedLaws.{text_seen}
use Rattle.nano_ron.specs.Codec.{codec_as}
use Rattle.nano_ron_tokens.specs.Token.{Token}
use Rattle.nano_ron_schema.specs.FieldCodecs.{optional_field, required_field, ron_fields}
use Rattle.nano_ron_nested.specs.TypeCodecs.{u32_codec}
use Rattle.test_nested_derived.specs.declared.chain.Chain.{Chain}
use Rattle.test_nested_derived.specs.ChainCodecs.{chain_view}
use Rattle.test_nested_derived.specs.ChainRonCodecs.{chain_ron_nested, chain_ron, chain_ron_fields}
use Rattle.test_nested_derived.specs.declared.chain.Chain.TheViews.{out-Chain}

-- ==== Chain

abbrev pub chain_ron_field_number : Chain → List (WrittenField Token)
chain_ron_field_number x =
    (required_field (codes "number") u32_codec).canonical.fields (out-Chain x).number

abbrev pub chain_ron_field_next : Chain → List (WrittenField Token)
chain_ron_field_next x =
    (optional_field (codes "next") (codec_as (λ (x : Box Chain Global). x.value) chain_ron)).canonical.fields (out-Chain x).next

abbrev pub chain_ron_written : Chain → List (WrittenField Token)
chain_ron_written x =
    (chain_ron_fields.codec chain_ron).canonical.fields (chain_view x)

pub chain_ron_text : (d : ℕ) → (x : Chain) → chain_ron.canonical.text d x
    ≡ fields_text ron_fields d (chain_ron_written x)
chain_ron_text d x = text_seen chain_ron_nested 128 d x (chain_view x) refl
