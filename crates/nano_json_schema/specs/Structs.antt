-- The codec of a user-defined struct in JSON.
use Rattle.std.specs.Prelude.{◌≡◌, ◌&&◌, true}
use Rattle.std.proofs.Common.{sym}
use Rattle.std.proofs.lemmas.Bool.{and_parts}
use Rattle.nano_grammar.specs.FieldCodec.{FieldsCodec}
use Rattle.nano_grammar.specs.Fields.{are_distinct}
use Rattle.nano_json.specs.Codec.{Codec}
-- what a tuple struct needs, passed on
pub use Rattle.nano_json.specs.Codec.{codec_as}
use Rattle.nano_json_schema.specs.FieldCodecs.{json_fields, plain_names, fields_codec}
use Rattle.nano_json_schema.specs.FieldCodecs.{strict, strict_names, row_codec}
use Rattle.nano_json_tokens.specs.Names.{are_plain_names}

-- a struct as the values of its fields, and their format. The last is `refl`: it checks that the
-- names are UTF-8 of which no character needs an escape, and that none occurs twice
abbrev pub json_of : {A B : Type 0} (view : A → B) (fields : FieldsCodec json_fields B)
    → true ≡ (are_plain_names fields.canonical.names && are_distinct fields.canonical.names)
    → Codec A
json_of view fields good =
    let all = fields.canonical.names in
    let parts = and_parts (are_plain_names all) (are_distinct all) (sym good) in
    codec_as view (fields_codec fields (plain_names {names = all} parts.0) parts.1)

-- the same of a strict struct, which has no fields but those
abbrev pub strict_json_of : {A B : Type 0} (view : A → B) (fields : FieldsCodec json_fields B)
    → true ≡ (are_plain_names fields.canonical.names && are_distinct fields.canonical.names)
    → Codec A
strict_json_of view fields good =
    let all = fields.canonical.names in
    let parts = and_parts (are_plain_names all) (are_distinct all) (sym good) in
    codec_as view (fields_codec (strict fields) (strict_names {names = all} parts.0) parts.1)

-- a tuple struct as the values of its parts, and the format of their row
abbrev pub tuple_json_of : {A B : Type 0} → (A → B) → Codec B → Codec A
tuple_json_of view parts = codec_as view (row_codec parts)
