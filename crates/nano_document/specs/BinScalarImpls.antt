-- What is proved of BinScalars.
use Rattle.std.proofs.Common.{◌≡◌, ◌<◌, ◌^◌, ℕ, ℤ, pos, negsuc, FitsSigned, List, ◌++◌, refl}
use Rattle.std.proofs.Common.{sym, ap, subst, arith, inl, inr}
use Rattle.std.proofs.Common.{lit<}
use Rattle.std.specs.Int.{w64}
use Rattle.nano_value.specs.Meaning.{Meaning, number, text, IsImage}
use Rattle.nano_meaning.proofs.MeaningLaws.{number_injective, text_injective}
use Rattle.nano_bin_bytes.specs.Codec.{IsEncoding}
use Rattle.nano_bin_bytes.proofs.CodecLaws.{image_encoding}
use Rattle.nano_bin_bytes.proofs.ListsLaws.{text_encoding, text_reads_back}
use Rattle.nano_bin_bytes.specs.Containers.{written_text}
use Rattle.nano_bin.specs.ScalarCodecs.{unsigned, signed, u64_codec, i64_codec}
use Rattle.nano_bin_levels.specs.Places.{EncodesAfter, BeginsAt}
use Rattle.nano_bin_levels.proofs.PlacesLaws.{after_laws, after_reads_back, same_place}
use Rattle.nano_document.specs.Decimals.{IsDecimal, IsHeldDecimal}
use Rattle.nano_document.specs.IntegerCodecs.{IsInteger}
use Rattle.nano_document.specs.BinScalars.{EncodesInteger, written_integer, EncodesDecimalText}
use Rattle.nano_document.specs.BinScalars.{EncodesDecimal}

-- ---- whole numbers

-- what an `i64` holds is a whole number of documents
pub signed_fits : (z : ℤ) → FitsSigned w64 z → IsInteger z
signed_fits (pos n) h = let small = h.sfits in omega (arith, small)
signed_fits (negsuc n) h = h

begins_after : (tag : ℕ) (S : List ℕ → Meaning → Type 0) (a : List ℕ) (m : Meaning)
    → EncodesAfter tag S a m → BeginsAt (λ k. k) tag a
begins_after tag S a m h = record {
  tag = tag;
  head = h.head;
  tail = h.tail;
  whole = h.whole;
  tagged = h.tagged;
  is = refl;
}

-- no bytes begin with both tags
apart : (a b m n : List ℕ) (x y : Meaning) → EncodesAfter 2 (unsigned 8).encodes a x
    → EncodesAfter 3 (signed w64 8).encodes b y → a ++ m ≡ b ++ n → ⊥
apart a b m n x y h j e =
    let one = begins_after 2 (unsigned 8).encodes a x h in
    let other = begins_after 3 (signed w64 8).encodes b y j in
    let same = same_place (λ k. k) 2 3 a b m n one other e in
    absurd (omega (arith, same))

integer_legal : (a : List ℕ) (m : Meaning) → EncodesInteger a m → IsImage number IsInteger m
integer_legal a m (inl h) =
    let small = h.content.has.fits in
    record { part = pos h.content.part; has = omega (arith, small); is = h.content.is }
integer_legal a m (inr h) =
    let fits = signed_fits h.content.part h.content.has.in_range in
    record { part = h.content.part; has = fits; is = h.content.is }

integer_value : (a : List ℕ) (x y : Meaning) → EncodesInteger a x → EncodesInteger a y → x ≡ y
integer_value a x y (inl h) (inl j) = (after_laws 2 (unsigned 8)).one_value a x y h j
integer_value a x y (inr h) (inr j) = (after_laws 3 (signed w64 8)).one_value a x y h j
integer_value a x y (inl h) (inr j) = absurd (apart a a a a x y h j refl)
integer_value a x y (inr h) (inl j) = absurd (apart a a a a y x j h refl)

integer_prefix : (a b m n : List ℕ) (x y : Meaning) → EncodesInteger a x → EncodesInteger b y
    → a ++ m ≡ b ++ n → a ≡ b
integer_prefix a b m n x y (inl h) (inl j) e =
    (after_laws 2 (unsigned 8)).one_prefix a b m n x y h j e
integer_prefix a b m n x y (inr h) (inr j) e =
    (after_laws 3 (signed w64 8)).one_prefix a b m n x y h j e
integer_prefix a b m n x y (inl h) (inr j) e = absurd (apart a b m n x y h j e)
integer_prefix a b m n x y (inr h) (inl j) e = absurd (apart b a n m y x j h (sym e))

pub integer_laws : IsEncoding (IsImage number IsInteger) EncodesInteger
integer_laws =
    record { is_legal = integer_legal; one_value = integer_value; one_prefix = integer_prefix }

pub integer_same : (x y : ℤ) → number x ≡ number y → written_integer x ≡ written_integer y
integer_same x y e = ap written_integer (number_injective x y e)

back : (z : ℤ) → IsInteger z → EncodesInteger (written_integer z) (number z)
back (pos n) h =
    let fits : n < 256 ^ 8 = omega (arith, h) in
    inl (after_reads_back 2 (lit< tt) u64_codec refl n (record { part = n; has = fits; is = refl }))
back (negsuc n) h =
    inr (after_reads_back 3 (lit< tt) i64_codec refl (negsuc n)
    (record { part = negsuc n; has = h; is = refl }))

pub integer_reads_back : (z : ℤ) → IsImage number IsInteger (number z)
    → EncodesInteger (written_integer z) (number z)
integer_reads_back z h = back z (subst IsInteger (sym (number_injective z h.part h.is)) h.has)

-- ---- decimals

decimal_encoding : IsEncoding IsHeldDecimal EncodesDecimalText
decimal_encoding = record {
  is_legal = λ a x h. record {
    is_decimal = h.is_decimal;
    is_text = text_encoding.is_legal a x h.encodes;
  };
  one_value = λ a x y h j. text_encoding.one_value a x y h.encodes j.encodes;
  one_prefix = λ a b m n x y h j e. text_encoding.one_prefix a b m n x y h.encodes j.encodes e;
}

pub decimal_laws : IsEncoding (IsImage text IsHeldDecimal) EncodesDecimal
decimal_laws = image_encoding decimal_encoding text

pub decimal_reads_back : (utf8 : List ℕ) → IsImage text IsHeldDecimal (text utf8)
    → EncodesDecimal (written_text utf8) (text utf8)
decimal_reads_back utf8 h =
    let held = subst IsHeldDecimal (sym (text_injective utf8 h.part h.is)) h.has in
    let found = text_reads_back utf8 (record { part = utf8; has = held.is_text; is = refl }) in
    let same = text_injective utf8 found.part found.is in
    record {
      part = found.part;
      has = record { encodes = found.has; is_decimal = subst IsDecimal same held.is_decimal };
      is = found.is;
    }
