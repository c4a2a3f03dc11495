-- What is proved of Scalars.
use Rattle.std.specs.Prelude.{◌≡◌, ℕ, zero, suc, ◌+◌, ◌*◌, ◌/◌, ◌%◌, ◌^◌, ◌<◌, refl, List, [], ◌∷◌}
use Rattle.std.specs.Prelude.{length, slice_index, ℤ, FitsSigned, Bool, true, false}
use Rattle.std.specs.Int.{bytes_low_first, byte_worth, sum_through, w8, w16, w32, w64, w128}
use Rattle.std.specs.Int.{to_le_bytes, from_le_bytes, Width, cast_signed, cast_unsigned}
use Rattle.std.proofs.Common.{sym, ◌∙◌, subst, ap, arith, take, lit<}
use Rattle.std.proofs.Math.Nat.{div-div-eq-div-mul, div-one, pow-suc, mod-add-div}
use Rattle.std.proofs.lemmas.Nat.{div_below}
use Rattle.std.proofs.Math.Facts.{Fits-of_z}
use Rattle.std.proofs.lemmas.Int.{to_z-of_z}
use Rattle.std.proofs.lemmas.List.{take_at}
use Rattle.nano_bin_bytes.specs.Scalars.{little_endian, little_value, EncodesNumber}
use Rattle.nano_bin_bytes.specs.Scalars.{EncodesUnsigned, EncodesSignedNumber, EncodesSigned}
use Rattle.nano_bin_bytes.specs.Scalars.{written_signed, EncodesTruth, EncodesBool, EncodesUnit}
use Rattle.nano_bin_bytes.specs.Scalars.{written_truth}
use Rattle.nano_value.specs.Meaning.{number, whole, IsImage, nothing, truth, LegalUnit}
use Rattle.nano_meaning.proofs.MeaningLaws.{number_injective, whole_injective, truth_injective}
use Rattle.nano_bin_bytes.specs.Codec.{IsEncoding}
use Rattle.nano_bin_bytes.specs.NumberImpls.{length-little_endian}

-- the bytes of a number give it back
pub little_value-little_endian : (k n : ℕ) → n < 256 ^ k → little_value (little_endian k n) ≡ n
unfolding little_endian little_value
little_value-little_endian zero n h = omega arith
little_value-little_endian (suc k) n h =
    let capacity = subst (λ m. n < m) (pow-suc 256 k) h in
    let below : n / 256 < 256 ^ k = div_below n 256 (256 ^ k) (omega arith) capacity in
    ap (λ m. n % 256 + 256 * m) (little_value-little_endian k (n / 256) below) ∙ mod-add-div n 256

-- ---- std's bytes of a number, at its widths

low_first : (i k n : ℕ) → bytes_low_first i k n ≡ little_endian k (n / 256 ^ i)
unfolding little_endian
low_first i zero n = refl
low_first zero (suc k) n = rw (div-one n) (ap (λ l. n % 256 ∷ l) (low_first 1 k n))
low_first (suc i) (suc k) n =
    let more = ap (λ m. little_endian k (n / m)) (pow-suc 256 (suc i)) in
    let back = ap (little_endian k) (sym (div-div-eq-div-mul n (256 ^ suc i) 256)) in
    ap (λ l. n / 256 ^ suc i % 256 ∷ l) (low_first (suc (suc i)) k n ∙ (more ∙ back))

shifted : (b : ℕ) (bytes : List ℕ) (k : ℕ)
    → sum_through (λ i. byte_worth i (slice_index (b ∷ bytes) i)) (suc k)
    ≡ b + 256 * sum_through (λ i. byte_worth i (slice_index bytes i)) k
shifted b bytes zero = omega arith
shifted b bytes (suc k) =
    let before = shifted b bytes k in
    rw (pow-suc 256 (suc k)) (omega (arith, before))

sum_of_bytes : (k : ℕ) (bytes : List ℕ) → length bytes ≡ suc k
    → sum_through (λ i. byte_worth i (slice_index bytes i)) k ≡ little_value bytes
unfolding little_value
sum_of_bytes k [] h = absurd (omega arith)
sum_of_bytes zero (b ∷ []) h = omega arith
sum_of_bytes zero (b ∷ c ∷ bytes) h = absurd (omega arith)
sum_of_bytes (suc k) (b ∷ bytes) h =
    shifted b bytes k ∙ ap (λ m. b + 256 * m) (sum_of_bytes k bytes (omega arith))

-- a byte is its number
pub little_byte : (n : ℕ) → n < 256 → little_endian 1 n ≡ n ∷ []
unfolding little_endian
little_byte n h = ap (λ m. m ∷ []) (omega arith)

pub to_le_bytes_16 : (n : ℕ) → to_le_bytes w16 n ≡ little_endian 2 n
to_le_bytes_16 n = low_first 0 2 n ∙ ap (little_endian 2) (div-one n)

pub to_le_bytes_32 : (n : ℕ) → to_le_bytes w32 n ≡ little_endian 4 n
to_le_bytes_32 n = low_first 0 4 n ∙ ap (little_endian 4) (div-one n)

pub to_le_bytes_64 : (n : ℕ) → to_le_bytes w64 n ≡ little_endian 8 n
to_le_bytes_64 n = low_first 0 8 n ∙ ap (little_endian 8) (div-one n)

pub to_le_bytes_128 : (n : ℕ) → to_le_bytes w128 n ≡ little_endian 16 n
to_le_bytes_128 n = low_first 0 16 n ∙ ap (little_endian 16) (div-one n)

pub from_le_bytes_8 : (bytes : List ℕ) → length bytes ≡ 1
    → from_le_bytes w8 bytes ≡ little_value bytes
from_le_bytes_8 = sum_of_bytes 0

pub from_le_bytes_16 : (bytes : List ℕ) → length bytes ≡ 2
    → from_le_bytes w16 bytes ≡ little_value bytes
from_le_bytes_16 = sum_of_bytes 1

pub from_le_bytes_32 : (bytes : List ℕ) → length bytes ≡ 4
    → from_le_bytes w32 bytes ≡ little_value bytes
from_le_bytes_32 = sum_of_bytes 3

pub from_le_bytes_64 : (bytes : List ℕ) → length bytes ≡ 8
    → from_le_bytes w64 bytes ≡ little_value bytes
from_le_bytes_64 = sum_of_bytes 7

pub from_le_bytes_128 : (bytes : List ℕ) → length bytes ≡ 16
    → from_le_bytes w128 bytes ≡ little_value bytes
from_le_bytes_128 = sum_of_bytes 15

-- ==== numbers

pub number_encoding : (k : ℕ) → IsEncoding (λ n. n < 256 ^ k) (EncodesNumber k)
number_encoding k = record {
  is_legal = λ a x h. h.fits;
  one_value = λ a x y h j.
      let same = ap little_value (sym h.whole ∙ j.whole) in
      sym (little_value-little_endian k x h.fits) ∙ (same ∙ little_value-little_endian k y j.fits);
  one_prefix = λ a b m n x y h j e.
      let la : length a ≡ k = ap length h.whole ∙ length-little_endian k x in
      let lb : length b ≡ k = ap length j.whole ∙ length-little_endian k y in
      sym (take_at a m k la) ∙ (ap (take k) e ∙ take_at b n k lb);
}

pub signed_encoding : (w : Width) (k : ℕ) → IsEncoding (FitsSigned w) (EncodesSignedNumber w k)
signed_encoding w k = record {
  is_legal = λ a x h. h.in_range;
  one_value = λ a x y h j.
      let bits = (number_encoding k).one_value a _ _ h.bits j.bits in
      sym (to_z-of_z w x h.in_range) ∙ (ap (cast_signed w) bits ∙ to_z-of_z w y j.in_range);
  one_prefix = λ a b m n x y h j e. (number_encoding k).one_prefix a b m n _ _ h.bits j.bits e;
}

pub number_same : (k m n : ℕ) → whole m ≡ whole n → little_endian k m ≡ little_endian k n
number_same k m n e = ap (little_endian k) (whole_injective m n e)

pub signed_same : (w : Width) (k : ℕ) (y z : ℤ) → number y ≡ number z
    → written_signed w k y ≡ written_signed w k z
signed_same w k y z e = ap (written_signed w k) (number_injective y z e)

pub unsigned_reads_back :
    (k n : ℕ) → IsImage whole (λ m. m < 256 ^ k) (whole n)
    → EncodesUnsigned k (little_endian k n) (whole n)
unsigned_reads_back k n h =
    let fits = subst (λ m. m < 256 ^ k) (sym (whole_injective n h.part h.is)) h.has in
    record { part = n; has = record { fits = fits; whole = refl }; is = refl }

pub signed_reads_back : (w : Width) (k : ℕ)
    → ((z : ℤ) → FitsSigned w z → cast_unsigned w z < 256 ^ k) → (z : ℤ)
    → IsImage number (FitsSigned w) (number z) → EncodesSigned w k (written_signed w k z) (number z)
signed_reads_back w k fits z h =
    let same = number_injective z h.part h.is in
    let in_range : FitsSigned w z = subst (FitsSigned w) (sym same) h.has in
    let n = cast_unsigned w z in
    let few = fits z in_range in
    let bits : EncodesNumber k (little_endian k n) n = record { fits = few; whole = refl } in
    record { part = z; has = record { in_range = in_range; bits = bits }; is = refl }

-- the bits of a number of each width fit its bytes
pub bits_fit_8 : (z : ℤ) → FitsSigned w8 z → cast_unsigned w8 z < 256 ^ 1
bits_fit_8 z h = (Fits-of_z {w = w8} {z = z} h).fits

pub bits_fit_16 : (z : ℤ) → FitsSigned w16 z → cast_unsigned w16 z < 256 ^ 2
bits_fit_16 z h = (Fits-of_z {w = w16} {z = z} h).fits

pub bits_fit_32 : (z : ℤ) → FitsSigned w32 z → cast_unsigned w32 z < 256 ^ 4
bits_fit_32 z h = (Fits-of_z {w = w32} {z = z} h).fits

pub bits_fit_64 : (z : ℤ) → FitsSigned w64 z → cast_unsigned w64 z < 256 ^ 8
bits_fit_64 z h = (Fits-of_z {w = w64} {z = z} h).fits

pub bits_fit_128 : (z : ℤ) → FitsSigned w128 z → cast_unsigned w128 z < 256 ^ 16
bits_fit_128 z h = (Fits-of_z {w = w128} {z = z} h).fits

-- ==== booleans and the unit

truth_value : (a : List ℕ) (x y : Bool) → EncodesTruth a x → EncodesTruth a y → x ≡ y
truth_value a true true h j = refl
truth_value a false false h j = refl
truth_value a true false h j = absurd (h.1 ((number_encoding 1).one_value a h.0 0 h.2 j))
truth_value a false true h j = absurd (j.1 ((number_encoding 1).one_value a j.0 0 j.2 h))

-- an encoding of a boolean is a byte
pub truth_byte : (a : List ℕ) (x : Bool) → EncodesTruth a x → (b : ℕ) × EncodesNumber 1 a b
truth_byte a true h = (h.0, h.2)
truth_byte a false h = (0, h)

pub truth_encoding : IsEncoding (λ _. Unit {0}) EncodesTruth
truth_encoding = record {
  is_legal = λ a x h. tt;
  one_value = truth_value;
  one_prefix = λ a b m n x y h j e.
      let p = truth_byte a x h in
      let q = truth_byte b y j in
      (number_encoding 1).one_prefix a b m n p.0 q.0 p.1 q.1 e;
}

pub unit_encoding : IsEncoding LegalUnit EncodesUnit
unit_encoding = record {
  is_legal = λ a m h. h.is;
  one_value = λ a m n h j. h.is ∙ sym j.is;
  one_prefix = λ a b m n x y h j e. h.empty ∙ sym j.empty;
}

pub truth_same : (b c : Bool) → truth b ≡ truth c → written_truth b ≡ written_truth c
truth_same b c e = ap written_truth (truth_injective b c e)

one_is_other : ◌≡◌ {A = ℕ} 1 0 → ⊥
one_is_other e = omega arith

pub truth_reads_back : (b : Bool) → EncodesBool (written_truth b) (truth b)
truth_reads_back false =
    record { part = false; has = record { fits = lit< tt; whole = refl }; is = refl }
truth_reads_back true =
    record {
      part = true;
      has = (1, one_is_other, record { fits = lit< tt; whole = refl });
      is = refl;
    }

pub unit_reads_back : EncodesUnit [] nothing
unit_reads_back = record { empty = refl; is = refl }
