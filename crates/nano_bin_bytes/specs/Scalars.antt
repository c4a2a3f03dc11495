-- Integers: fixed widths, the lowest byte first; signed ones in two's complement. Booleans.
use Rattle.std.specs.Prelude.{◌≡◌, ℕ, zero, suc, ◌+◌, ◌*◌, ◌/◌, ◌%◌, ◌^◌, ◌<◌, List, [], ◌∷◌}
use Rattle.std.specs.Prelude.{length, ℤ, FitsSigned, ◌≢◌, Bool, true, false}
use Rattle.std.specs.Int.{Width, cast_signed, cast_unsigned}
use Rattle.std.specs.List.{AllByRecursion}
use Rattle.nano_value.specs.Meaning.{Meaning, number, whole, IsImage, nothing, truth}

-- the k lowest bytes of a number
unfoldable pub little_endian : ℕ → ℕ → List ℕ
little_endian zero n = []
little_endian (suc k) n = n % 256 ∷ little_endian k (n / 256)

-- the number of bytes
unfoldable pub little_value : List ℕ → ℕ
little_value [] = 0
little_value (b ∷ bytes) = b + 256 * little_value bytes

-- the bytes are the k bytes of a number that fits in them
pub record EncodesNumber (k : ℕ) (bytes : List ℕ) (n : ℕ) : Type 0 where
  pub fits : n < 256 ^ k
  pub whole : bytes ≡ little_endian k n

-- ==== integers of a width

-- an unsigned number of k bytes
abbrev pub EncodesUnsigned : ℕ → List ℕ → Meaning → Type 0
EncodesUnsigned k bytes = IsImage whole (EncodesNumber k bytes)

-- a signed number of k bytes, in two's complement
pub record EncodesSignedNumber (w : Width) (k : ℕ) (bytes : List ℕ) (z : ℤ) : Type 0 where
  pub in_range : FitsSigned w z
  pub bits : EncodesNumber k bytes (cast_unsigned w z)

abbrev pub EncodesSigned : Width → ℕ → List ℕ → Meaning → Type 0
EncodesSigned w k bytes = IsImage number (EncodesSignedNumber w k bytes)

-- the bytes of the two's complement
abbrev pub written_signed : Width → ℕ → ℤ → List ℕ
written_signed w k z = little_endian k (cast_unsigned w z)

-- the number whose two's complement the bytes are
abbrev pub signed_value : Width → List ℕ → ℤ
signed_value w bytes = cast_signed w (little_value bytes)

-- each is a byte
abbrev pub AreBytes : List ℕ → Type 0
AreBytes = AllByRecursion (λ b. b < 256)

-- this many bytes always encode what they mean, and more or fewer bytes encode nothing
pub record HasWidth (k : ℕ) (encodes : List ℕ → Meaning → Type 0)
    (means : List ℕ → Meaning) : Type 0 where
  pub long : (bytes : List ℕ) (m : Meaning) → encodes bytes m → length bytes ≡ k
  pub is_encoded : (bytes : List ℕ) → length bytes ≡ k → AreBytes bytes
      → encodes bytes (means bytes)

-- ==== booleans: a byte, 0 or any other. The unit: no byte

-- a byte: 0 is false, and any other true
abbrev pub EncodesTruth : List ℕ → Bool → Type 0
EncodesTruth bytes false = EncodesNumber 1 bytes 0
EncodesTruth bytes true = (b : ℕ) × (b ≢ 0) × EncodesNumber 1 bytes b

-- a boolean, by what it means
abbrev pub EncodesBool : List ℕ → Meaning → Type 0
EncodesBool bytes = IsImage truth (EncodesTruth bytes)

-- no byte
pub record EncodesUnit (bytes : List ℕ) (m : Meaning) : Type 0 where
  pub empty : bytes ≡ []
  pub is : m ≡ nothing

-- the byte 1 or 0
abbrev pub written_truth : Bool → List ℕ
written_truth false = little_endian 1 0
written_truth true = little_endian 1 1
