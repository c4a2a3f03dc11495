-- What the integer types need to have a width: its bytes and its number give each other back.
use Rattle.std.specs.Prelude.{◌≡◌, ◌<◌, ◌^◌, ◌+◌, ◌*◌, ◌/◌, ◌%◌, ℕ, zero, suc, refl, List, [], ◌∷◌}
use Rattle.std.specs.Prelude.{length}
use Rattle.std.specs.Int.{Width, cast_unsigned}
use Rattle.std.proofs.Common.{sym, ◌∙◌, subst, ap, arith, Fits as FitsWidth}
use Rattle.std.proofs.Math.Facts.{sfits_to_z, of_z-to_z}
use Rattle.std.proofs.Math.Nat.{pow-suc}
use Rattle.nano_value.specs.Meaning.{number, whole}
use Rattle.nano_bin_bytes.specs.Scalars.{EncodesNumber, little_endian, little_value}
use Rattle.nano_bin_bytes.specs.Scalars.{EncodesUnsigned, EncodesSigned, signed_value, AreBytes}
use Rattle.nano_bin_bytes.specs.Scalars.{HasWidth}

pub length-little_endian : (k n : ℕ) → length (little_endian k n) ≡ k
unfolding little_endian
length-little_endian zero n = refl
length-little_endian (suc k) n = ap (λ m. suc m) (length-little_endian k (n / 256))

-- bytes are those of their number
little_endian-little_value : (bytes : List ℕ) → AreBytes bytes
    → little_endian (length bytes) (little_value bytes) ≡ bytes
unfolding little_endian little_value
little_endian-little_value [] h = refl
little_endian-little_value (b ∷ bytes) h =
    let small : b < 256 = h.0 in
    let low : (b + 256 * little_value bytes) % 256 ≡ b = omega (arith, small) in
    let high : (b + 256 * little_value bytes) / 256 ≡ little_value bytes = omega (arith, small) in
    rw (low, high) (ap (λ l. b ∷ l) (little_endian-little_value bytes h.1))

little_value_fits : (bytes : List ℕ) → AreBytes bytes → little_value bytes < 256 ^ length bytes
unfolding little_value
little_value_fits [] h = omega arith
little_value_fits (b ∷ bytes) h =
    let small : b < 256 = h.0 in
    let rest = little_value_fits bytes h.1 in
    rw (pow-suc 256 (length bytes)) (omega (arith, small, rest))

module _ (k : ℕ) where
  encodes_value : (bytes : List ℕ) → length bytes ≡ k → AreBytes bytes
      → EncodesNumber k bytes (little_value bytes)
  encodes_value bytes long small = record {
    fits = subst (λ m. little_value bytes < 256 ^ m) long (little_value_fits bytes small);
    whole =
        subst (λ m. bytes ≡ little_endian m (little_value bytes)) long
        (sym (little_endian-little_value bytes small));
  }

  pub unsigned_width : HasWidth k (EncodesUnsigned k) (λ bytes. whole (little_value bytes))
  unsigned_width = record {
    long = λ bytes m h. ap length h.has.whole ∙ length-little_endian k h.part;
    is_encoded = λ bytes long small. record {
      part = little_value bytes;
      has = encodes_value bytes long small;
      is = refl;
    };
  }

  -- the signed number of the bits
  pub signed_width :
      (w : Width) → ((n : ℕ) → n < 256 ^ k → FitsWidth w n)
      → HasWidth k (EncodesSigned w k) (λ bytes. number (signed_value w bytes))
  signed_width w fits = record {
    long = λ bytes m h.
        ap length h.has.bits.whole ∙ length-little_endian k (cast_unsigned w h.part);
    is_encoded = λ bytes long small.
        let bits = encodes_value bytes long small in
        let n = little_value bytes in
        let fit = fits n bits.fits in
        let in_range = sfits_to_z {w = w} {n = n} fit in
        let back = subst (EncodesNumber k bytes) (sym (of_z-to_z {w = w} {n = n} fit)) bits in
        record {
          part = signed_value w bytes;
          has = record { in_range = in_range; bits = back };
          is = refl;
        };
  }
