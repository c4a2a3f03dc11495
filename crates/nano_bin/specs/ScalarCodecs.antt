-- Codecs of scalars: integers, booleans, the unit and texts. They carry their laws.
use Rattle.std.specs.Prelude.{◌<◌, ◌^◌, ℕ, true, ℤ, FitsSigned, Bool, [], refl, List, String}
use Rattle.std.specs.Prelude.{string_bytes, ◌≡◌, ◌≤◌, ◌+◌, ◌++◌, length, take}
use Rattle.std.specs.Int.{Width, w8, w16, w32, w64, cast_unsigned}
use Rattle.std.specs.Global.{Global}
use Rattle.std.specs.List.{flat_map}
use Rattle.nano_value.specs.Meaning.{number, whole, IsImage, nothing, truth, LegalUnit, text}
use Rattle.nano_value.specs.Meaning.{IsText}
use Rattle.nano_bin_bytes.specs.Codec.{Encoding, Canonical, Codec}
use Rattle.nano_bin_bytes.specs.BaseCodecs.{codec_as}
use Rattle.nano_bin_bytes.specs.Scalars.{little_endian, EncodesUnsigned, EncodesSigned}
use Rattle.nano_bin_bytes.specs.Scalars.{written_signed, EncodesBool, EncodesUnit, written_truth}
use Rattle.nano_bin_bytes.proofs.CodecLaws.{image_encoding}
use Rattle.nano_bin_bytes.proofs.ScalarsLaws.{number_encoding, number_same, unsigned_reads_back}
use Rattle.nano_bin_bytes.proofs.ScalarsLaws.{signed_encoding, signed_same, signed_reads_back}
use Rattle.nano_bin_bytes.proofs.ScalarsLaws.{bits_fit_8, bits_fit_16, bits_fit_32, bits_fit_64}
use Rattle.nano_bin_bytes.proofs.ScalarsLaws.{truth_encoding, truth_same, truth_reads_back}
use Rattle.nano_bin_bytes.proofs.ScalarsLaws.{unit_encoding, unit_reads_back}
use Rattle.nano_bin_bytes.specs.Containers.{EncodesString, written_text, written_string}
use Rattle.nano_bin_bytes.proofs.ListsLaws.{text_encoding, text_same, text_reads_back}

-- unsigned numbers of k bytes
abbrev pub unsigned : ℕ → Encoding
unsigned k = record {
  legal = IsImage whole (λ n. n < 256 ^ k);
  encodes = EncodesUnsigned k;
  laws = image_encoding (number_encoding k) whole;
}

abbrev pub unsigned_canonical : ℕ → Canonical ℕ
unsigned_canonical k =
    record { means = whole; written = little_endian k; same_written = number_same k }

abbrev pub unsigned_codec : ℕ → Codec ℕ
unsigned_codec k = record {
  canonical = unsigned_canonical k;
  encoding = unsigned k;
  is_decodable = true;
  reads_back = λ is. unsigned_reads_back k;
}

-- signed numbers of a width of k bytes
abbrev pub signed : Width → ℕ → Encoding
signed w k = record {
  legal = IsImage number (FitsSigned w);
  encodes = EncodesSigned w k;
  laws = image_encoding (signed_encoding w k) number;
}

abbrev pub signed_canonical : Width → ℕ → Canonical ℤ
signed_canonical w k =
    record { means = number; written = written_signed w k; same_written = signed_same w k }

-- the bits of each number of the width fit the bytes
abbrev pub signed_codec :
    (w : Width) (k : ℕ) → ((z : ℤ) → FitsSigned w z → cast_unsigned w z < 256 ^ k) → Codec ℤ
signed_codec w k fits = record {
  canonical = signed_canonical w k;
  encoding = signed w k;
  is_decodable = true;
  reads_back = λ is. signed_reads_back w k fits;
}

-- ---- those of the types, by the types' names

abbrev pub u8_codec : Codec ℕ
u8_codec = unsigned_codec 1

abbrev pub u16_codec : Codec ℕ
u16_codec = unsigned_codec 2

abbrev pub u32_codec : Codec ℕ
u32_codec = unsigned_codec 4

abbrev pub u64_codec : Codec ℕ
u64_codec = unsigned_codec 8

abbrev pub usize_codec : Codec ℕ
usize_codec = unsigned_codec 8

abbrev pub i8_codec : Codec ℤ
i8_codec = signed_codec w8 1 bits_fit_8

abbrev pub i16_codec : Codec ℤ
i16_codec = signed_codec w16 2 bits_fit_16

abbrev pub i32_codec : Codec ℤ
i32_codec = signed_codec w32 4 bits_fit_32

abbrev pub i64_codec : Codec ℤ
i64_codec = signed_codec w64 8 bits_fit_64

-- ==== booleans and the unit

abbrev pub booleans : Encoding
booleans = record {
  legal = IsImage truth (λ _. Unit {0});
  encodes = EncodesBool;
  laws = image_encoding truth_encoding truth;
}

abbrev pub truth_canonical : Canonical Bool
truth_canonical = record { means = truth; written = written_truth; same_written = truth_same }

abbrev pub boolean_codec : Codec Bool
boolean_codec = record {
  canonical = truth_canonical;
  encoding = booleans;
  is_decodable = true;
  reads_back = λ is b h. truth_reads_back b;
}

abbrev pub units : Encoding
units = record { legal = LegalUnit; encodes = EncodesUnit; laws = unit_encoding }

abbrev pub unit_canonical : {A : Type 0} → Canonical A
unit_canonical = record { means = λ _. nothing; written = λ _. []; same_written = λ x y e. refl }

abbrev pub unit_codec : {A : Type 0} → Codec A
unit_codec = record {
  canonical = unit_canonical;
  encoding = units;
  is_decodable = true;
  reads_back = λ is x h. unit_reads_back;
}

-- ==== texts

abbrev pub texts : Encoding
texts = record {
  legal = IsImage text IsText;
  encodes = EncodesString;
  laws = image_encoding text_encoding text;
}

abbrev pub text_canonical : Canonical (List ℕ)
text_canonical = record { means = text; written = written_text; same_written = text_same }

abbrev pub text_codec : Codec (List ℕ)
text_codec = record {
  canonical = text_canonical;
  encoding = texts;
  is_decodable = true;
  reads_back = λ is. text_reads_back;
}

abbrev pub string_codec : Codec (String Global)
string_codec = codec_as (λ x. string_bytes x) text_codec

-- ==== many texts at a time: what is gathered into a block, and what is appended

-- so many of the texts, and one at least, come after what was there
pub record AppendsSome (texts : List (String Global)) (old new : List ℕ) (count : ℕ) : Type 0 where
  pub some : 0 < count
  pub within : count ≤ length texts
  pub appended : new ≡ old ++ flat_map written_string (take count texts)

-- so many of the texts stand in a block of this size, up to a place
pub record Gathers (size : ℕ) (texts : List (String Global)) (count : ℕ) (block : List ℕ)
    (place : ℕ) : Type 0 where
  pub within : count ≤ length texts
  pub fits : place ≤ size
  pub gathered : take place block ≡ flat_map written_string (take count texts)

-- the length and the bytes of a text come after those up to a place, and end at another
pub record PutsText (text : List ℕ) (place : ℕ) (old new : List ℕ) (end : ℕ) : Type 0 where
  pub ends : end ≡ place + 8 + length text
  pub put : take end new ≡ take place old ++ written_text text
