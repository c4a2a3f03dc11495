-- A message by its variant, and how its variants stand in JSON.
use Rattle.test_types.specs.declared.message.Message.{Message}
use Rattle.test_types.specs.declared.message.Message.TheVariants.{Hello, Move, Wait, Say}
use Rattle.std.specs.Prelude.{ℕ, ℤ, List, [], ◌∷◌, String, codes, refl}
use Rattle.std.specs.Global.{Global}
use Rattle.std.proofs.Common.{inl, inr}
use Rattle.nano_json.specs.Codec.{Codec, codec_as}
use Rattle.nano_json_schema.specs.FieldCodecs.{required_field, fields_pair, plain_names}
use Rattle.nano_json_schema.specs.FieldCodecs.{fields_codec, i32_codec, u32_codec, u64_codec}
use Rattle.nano_json_schema.specs.FieldCodecs.{string_codec, pair_codec, array_codec}
use Rattle.nano_json_schema.specs.VariantCodecs.{JsonVariants, body}
use Rattle.nano_json_schema.specs.Variants.{Seen, no_variants, unit_variant, variant}
use Rattle.nano_json_schema.specs.Variants.{variants_codec}

-- what comes after the names of the variants with content
abbrev pub moved : Codec (ℤ × String Global)
moved = pair_codec i32_codec string_codec

-- one part alone stands between square brackets, as an array of one
abbrev pub waited : Codec (List ℕ)
waited = array_codec 1 u64_codec

abbrev pub said : Codec (String Global × ℕ)
said =
    fields_codec (fields_pair (required_field (codes "text") string_codec) (required_field (codes "times") u32_codec))
    (plain_names refl) refl

abbrev pub variants : JsonVariants
variants =
    unit_variant (codes "Hello")
    (variant (codes "Move") (body moved)
    (variant (codes "Wait") (body waited)
    (variant (codes "Say") (body said)
    no_variants)))

abbrev pub seen : Message → Seen variants
seen Hello = inl tt
seen (Move by name) = inr (inl (by, name))
seen (Wait time) = inr (inr (inl (time ∷ [])))
seen (Say text times) = inr (inr (inr (inl (text, times))))

abbrev pub message_codec : Codec Message
message_codec = codec_as seen (variants_codec variants refl refl)
