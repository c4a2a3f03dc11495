-- Whole numbers and decimals of documents as bytes.
use Rattle.std.specs.Prelude.{◌⊎◌, ℕ, ℤ, pos, negsuc, List, ◌++◌}
use Rattle.std.specs.Int.{w64}
use Rattle.nano_value.specs.Meaning.{Meaning, text, IsImage}
use Rattle.nano_bin_bytes.specs.Scalars.{EncodesUnsigned, EncodesSigned, little_endian}
use Rattle.nano_bin_bytes.specs.Scalars.{written_signed}
use Rattle.nano_bin_bytes.specs.Containers.{EncodesText}
use Rattle.nano_bin_levels.specs.Places.{EncodesAfter}
use Rattle.nano_document.specs.Decimals.{IsDecimal}

-- a whole number: a `u64` after the tag 2, or an `i64` after the tag 3
abbrev pub EncodesInteger : List ℕ → Meaning → Type 0
EncodesInteger bytes m =
    EncodesAfter 2 (EncodesUnsigned 8) bytes m ⊎ EncodesAfter 3 (EncodesSigned w64 8) bytes m

-- only a number below 0 is written as an `i64`
abbrev pub written_integer : ℤ → List ℕ
written_integer (pos n) = little_endian 2 2 ++ little_endian 8 n
written_integer (negsuc n) = little_endian 2 3 ++ written_signed w64 8 (negsuc n)

-- a text that is a decimal
pub record EncodesDecimalText (bytes utf8 : List ℕ) : Type 0 where
  pub encodes : EncodesText bytes utf8
  pub is_decimal : IsDecimal utf8

abbrev pub EncodesDecimal : List ℕ → Meaning → Type 0
EncodesDecimal bytes = IsImage text (EncodesDecimalText bytes)
