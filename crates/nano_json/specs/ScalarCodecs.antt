-- Codecs of scalars: integers, booleans, the unit and texts. They carry their laws.
use Rattle.std.specs.Prelude.{◌<◌, ◌^◌, ℕ, ℤ, FitsSigned, Bool, List}
use Rattle.std.specs.Int.{Width, w64}
use Rattle.nano_value.specs.Meaning.{number, whole, truth, IsText, text}
use Rattle.nano_grammar.proofs.ScalarsLaws.{one_of, one_codec, unit_of}
use Rattle.nano_grammar.proofs.ScalarsLaws.{unit_codec as codec_of_units}
use Rattle.nano_json_tokens.proofs.ScalarsLaws.{unsigned_tokens, unsigned_one, signed_tokens}
use Rattle.nano_json_tokens.proofs.ScalarsLaws.{signed_one, truth_tokens, truth_one, text_tokens}
use Rattle.nano_json_tokens.proofs.ScalarsLaws.{text_one}
use Rattle.nano_json.specs.Codec.{Codec, Encoding}
pub use Rattle.nano_grammar.specs.Scalars.{IsRangeOf}
pub use Rattle.nano_grammar.proofs.ScalarsLaws.{below_8, below_16, below_32, below_64, within_8}
pub use Rattle.nano_grammar.proofs.ScalarsLaws.{within_16, within_32, within_64}
use Rattle.nano_json_tokens.proofs.JsonLaws.{unit_style}

-- unsigned numbers of so many bits
abbrev pub unsigned : ℕ → Encoding
unsigned bits = one_of unsigned_tokens whole (λ n. n < 2 ^ bits)

-- signed numbers of a width
abbrev pub signed : Width → Encoding
signed w = one_of signed_tokens number (FitsSigned w)

abbrev pub unsigned_codec : (bits : ℕ) → ((n : ℕ) → n < 2 ^ bits → n < 2 ^ 64) → Codec ℕ
unsigned_codec bits small =
    one_codec unsigned_tokens whole (λ n. n < 2 ^ bits) (unsigned_one bits small)

abbrev pub signed_codec : (w : Width) → ((z : ℤ) → FitsSigned w z → FitsSigned w64 z) → Codec ℤ
signed_codec w small = one_codec signed_tokens number (FitsSigned w) (signed_one w small)

-- ==== booleans and the unit

abbrev pub booleans : Encoding
booleans = one_of truth_tokens truth (λ _. Unit {0})

abbrev pub boolean_codec : Codec Bool
boolean_codec = one_codec truth_tokens truth (λ _. Unit {0}) truth_one

abbrev pub units : Encoding
units = unit_of unit_style

abbrev pub unit_codec : {A : Type 0} → Codec A
unit_codec {A} = codec_of_units unit_style {A = A}

-- ==== texts

abbrev pub texts : Encoding
texts = one_of text_tokens text IsText

abbrev pub text_codec : Codec (List ℕ)
text_codec = one_codec text_tokens text IsText text_one
