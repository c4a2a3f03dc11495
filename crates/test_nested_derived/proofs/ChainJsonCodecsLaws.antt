-- Written by derive_files: what is proved of types that contain themselves.
use Rattle.std.specs.Prelude.{◌≡◌, ℕ, List, refl, codes, Box}
use Rattle.std.specs.Global.{Global}
use Rattle.nano_grammar.specs.FieldCodec.{WrittenField, fields_text}
use Rattle.nano_schema_levels.proofs.NestedLaws.{text_seen}
use Rattle.nano_json.specs.Codec.{codec_as}
use Rattle.nano_json_tokens.specs.Token.{Token}
use Rattle.nano_json_schema.specs.FieldCodecs.{json_fields, optional_field, required_field, u32_codec}
use Rattle.test_nested_derived.specs.declared.chain.Chain.{Chain}
use Rattle.test_nested_derived.specs.ChainCodecs.{chain_view}
use Rattle.test_nested_derived.specs.ChainJsonCodecs.{chain_json_nested, chain_json, chain_json_fields}
use Rattle.test_nested_derived.specs.declared.chain.Chain.TheViews.{out-Chain}

-- ==== Chain

abbrev pub chain_json_field_number : Chain → List (WrittenField Token)
chain_json_field_number x =
    (required_field (codes "number") u32_codec).canonical.fields (out-Chain x).number

abbrev pub chain_json_field_next : Chain → List (WrittenField Token)
chain_json_field_next x =
    (optional_field (codes "next") (codec_as (λ (x : Box Chain Global). x.value) chain_json)).canonical.fields (out-Chain x).next

abbrev pub chain_json_written : Chain → List (WrittenField Token)
chain_json_written x =
    (chain_json_fields.codec chain_json).canonical.fields (chain_view x)

pub chain_json_text : (d : ℕ) → (x : Chain) → chain_json.canonical.text d x
    ≡ fields_text json_fields d (chain_json_written x)
chain_json_text d x = text_seen chain_json_nested 128 d x (chain_view x) refl
