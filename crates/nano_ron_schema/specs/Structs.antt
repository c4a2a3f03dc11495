-- The codec of a user-defined struct in RON.
use Rattle.std.specs.Prelude.{◌≡◌, ◌&&◌, true}
use Rattle.std.proofs.Common.{sym}
use Rattle.std.proofs.lemmas.Bool.{and_parts}
use Rattle.nano_grammar.specs.FieldCodec.{FieldsCodec}
use Rattle.nano_grammar.specs.Fields.{are_distinct}
use Rattle.nano_ron.specs.Codec.{Codec}
-- what a tuple struct needs, passed on
pub use Rattle.nano_ron.specs.Codec.{codec_as}
use Rattle.nano_ron_schema.specs.FieldCodecs.{ron_fields, word_names, fields_codec, row_codec}
use Rattle.nano_ron_schema.specs.FieldCodecs.{open_codec, open_names}
use Rattle.nano_ron_tokens.specs.Names.{are_names}

-- a struct as the values of its fields, and their format. The last is `refl`: it checks that the
-- names are words but `true` and `false`, and that none occurs twice
abbrev pub ron_of : {A B : Type 0} (view : A → B) (fields : FieldsCodec ron_fields B)
    → true ≡ (are_names fields.canonical.names && are_distinct fields.canonical.names)
    → Codec A
ron_of view fields good =
    let all = fields.canonical.names in
    let parts = and_parts (are_names all) (are_distinct all) (sym good) in
    codec_as view (fields_codec fields (word_names {names = all} parts.0) parts.1)

-- the same of an open struct, whose texts may have other fields too
abbrev pub open_ron_of : {A B : Type 0} (view : A → B) (fields : FieldsCodec ron_fields B)
    → true ≡ (are_names fields.canonical.names && are_distinct fields.canonical.names)
    → Codec A
open_ron_of view fields good =
    let all = fields.canonical.names in
    let parts = and_parts (are_names all) (are_distinct all) (sym good) in
    codec_as view (fields_codec (open_codec fields) (open_names {names = all} parts.0) parts.1)

-- a tuple struct as the values of its parts, and the format of their row
abbrev pub tuple_ron_of : {A B : Type 0} → (A → B) → Codec B → Codec A
tuple_ron_of view parts = codec_as view (row_codec parts)
