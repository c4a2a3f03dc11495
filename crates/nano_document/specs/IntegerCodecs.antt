-- Whole numbers in the range of `i64` or of `u64`, with a minus sign or without.
use Rattle.std.specs.Prelude.{◌<◌, ◌^◌, ℤ, pos, negsuc, FitsSigned, [], ◌∷◌}
use Rattle.std.specs.Fmt.{signed_decimal}
use Rattle.std.specs.Int.{w64}
use Rattle.nano_value.specs.Meaning.{number}
use Rattle.nano_meaning.proofs.MeaningLaws.{number_injective}
use Rattle.nano_grammar.specs.Tokens.{IsValueText}
use Rattle.nano_grammar.specs.Scalars.{OneCanonical}
use Rattle.nano_grammar.proofs.ScalarsLaws.{one_of, one_codec}
use Rattle.nano_json_tokens.proofs.JsonLaws.{json}
use Rattle.nano_json_tokens.proofs.ScalarsLaws.{signed_tokens, signed_carries, unsigned_one}
use Rattle.nano_json_tokens.proofs.ScalarsLaws.{signed_one}
use Rattle.nano_json_tokens.specs.WrittenImpls.{signed_token}
use Rattle.nano_json.specs.Codec.{Codec}
use Rattle.nano_json.specs.Codec.{Encoding}

abbrev pub IsInteger : ℤ → Type 0
IsInteger (pos n) = n < 2 ^ 64
IsInteger (negsuc n) = FitsSigned w64 (negsuc n)

pub integer_is_written : (z : ℤ) → IsInteger z
    → IsValueText json (signed_token z ∷ []) (signed_decimal z)
integer_is_written (pos n) h = (unsigned_one 64 (λ n h. h)).is_written n h
integer_is_written (negsuc n) h = (signed_one w64 (λ z h. h)).is_written (negsuc n) h

abbrev pub integer_one : OneCanonical json signed_tokens number IsInteger
integer_one = record {
  token = signed_token;
  text = signed_decimal;
  injective = number_injective;
  carries_it = signed_carries;
  is_written = integer_is_written;
}

abbrev pub integers : Encoding
integers = one_of signed_tokens number IsInteger

abbrev pub integer_codec : Codec ℤ
integer_codec = one_codec signed_tokens number IsInteger integer_one
