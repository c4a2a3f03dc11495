-- The codec of a user-defined enum in JSON.
use Rattle.std.specs.Prelude.{◌≡◌, true}
use Rattle.std.proofs.Common.{sym}
use Rattle.nano_grammar.specs.Variants.{names_differ}
use Rattle.nano_grammar.specs.VariantCodec.{names_are_good}
use Rattle.nano_json.specs.Codec.{Codec, codec_as}
use Rattle.nano_json_schema.specs.VariantCodecs.{json_variants}
use Rattle.nano_grammar.specs.Choices.{ChoiceCodec}
use Rattle.nano_grammar.proofs.ChoicesLaws.{choice_codec}

-- an enum as the content of the variant that it is, and the format of the variants. The last three
-- are `refl` each: they check that the names of the fields are UTF-8 of which no character needs
-- an escape, and none occurs twice in a variant; that those of the variants are such too; and
-- that no two variants have one name
abbrev pub json_choice : {A B : Type 0} (view : A → B) (variants : ChoiceCodec json_variants B)
    → (ok : true ≡ variants.good)
    → true ≡ names_are_good (variants.chosen (sym ok)).variants
    → true ≡ names_differ (variants.chosen (sym ok)).variants
    → Codec A
json_choice view variants ok good differ =
    codec_as view (choice_codec variants (sym ok) (sym good) (sym differ))
