-- What is proved of Scalars.
use Rattle.std.specs.Prelude.{◌≡◌, ℕ, List, [], ◌∷◌, ◌++◌, refl, ◌<◌, ◌^◌, ℤ, FitsSigned}
use Rattle.std.proofs.Common.{sym, ◌∙◌, subst, ap, arith, ◌+◌, pos, negsuc, ◌≤ℤ◌, false, not, T}
use Rattle.std.specs.Int.Signed.{lt_z, lt_z_no}
use Rattle.std.specs.Int.{w8, w16, w32, w64, Width}
use Rattle.std.proofs.lemmas.Int.{ints}
use Rattle.nano_value.specs.Meaning.{Meaning, LegalUnit}
use Rattle.nano_grammar.specs.Tokens.{Cutting, IsValueText}
use Rattle.nano_grammar.specs.Codec.{Codec, Grammar, BeginsValue, StartsWith, IsEncoding, Encoding}
use Rattle.nano_grammar.proofs.EncodingLaws.{same_heads, same_tails, encoding_of}
use Rattle.nano_grammar.specs.Scalars.{Carries, EncodesOne, OneCanonical, UnitStyle}
use Rattle.nano_grammar.specs.BaseCodecs.{one_canonical}
use Rattle.nano_grammar.specs.Scalars.{EncodesUnit}
use Rattle.nano_grammar.specs.BaseCodecs.{unit_canonical}
use Rattle.nano_grammar.proofs.ItemLaws.{nothing_after}
use mir.Val.{hbits}
use Rattle.nano_grammar.specs.Scalars.{IsRangeOf}

-- what encodes each value by one token, as a value may begin, is an encoding
pub token_encoding : {T : Type 0} (g : Grammar T) {A : Type 0} {P : A → Type 0}
    {S : List T → A → Type 0} → ((ts : List T) (x : A) → S ts x → P x)
    → ((ts : List T) (x y : A) → S ts x → S ts y → x ≡ y)
    → ((ts : List T) (x : A) → S ts x → (t : T) × (ts ≡ t ∷ []) × g.may_begin t)
    → IsEncoding g P S
token_encoding {T} g is_legal one token = record {
  is_legal = is_legal;
  one_value = one;
  none_begins = λ ts more x y h k.
      let a = token ts x h in
      let b = token (ts ++ more) y k in
      same_tails a.0 b.0 more [] (sym (ap (λ (us : List T). us ++ more) a.1) ∙ b.1);
  begins = λ ts x h. let a = token ts x h in subst (BeginsValue g) (sym a.1) a.2;
}

module _ {T A : Type 0} (g : Grammar T) (k : Carries g A) (P : A → Type 0) where
  one_value : (ts : List T) (x y : A) → EncodesOne k.carries P ts x → EncodesOne k.carries P ts y
      → x ≡ y
  one_value ts x y h j =
      let same = same_heads h.token j.token [] [] (sym h.one ∙ j.one) in
      k.one j.token x y (subst (λ (t : T). k.carries t x) same h.carries_it) j.carries_it

  pub one_encoding : IsEncoding g P (EncodesOne k.carries P)
  one_encoding = token_encoding g
      (λ ts x h. h.has)
      one_value
      (λ ts x h. (h.token, h.one, k.begins h.token x h.carries_it))

-- ---- the encoding, the canonical text and the format

abbrev pub one_of : {T A : Type 0} {g : Grammar T} (k : Carries g A) (means : A → Meaning)
    (P : A → Type 0) → Encoding g
one_of {g = g} k means P = encoding_of means P (EncodesOne k.carries P) (one_encoding g k P)

module _ {T A : Type 0} {c : Cutting T} {g : Grammar T} (k : Carries g A) (means : A → Meaning)
    (P : A → Type 0) (w : OneCanonical c k means P) where
  has_it : (x : A) → (one_of k means P).legal (means x) → P x
  has_it x h = subst P (sym (w.injective x h.part h.is)) h.has

  pub one_is_written : (x : A) → (one_of k means P).legal (means x) → (d : ℕ)
      → IsValueText c (w.token x ∷ []) (w.text x)
  one_is_written x h d = w.is_written x (has_it x h)

  pub one_reads_back : (x : A) → (one_of k means P).legal (means x) → Unit {0}
      → (one_of k means P).encodes (w.token x ∷ []) (means x)
  one_reads_back x h _ = record {
    part = x;
    has = record { token = w.token x; one = refl; carries_it = w.carries_it x; has = has_it x h };
    is = refl;
  }

  pub one_null_alone : (x : A) (ts : List T) → StartsWith g.none (w.token x ∷ [])
      → (one_of k means P).encodes ts (means x) → StartsWith g.none ts
  one_null_alone x ts e h = absurd (k.some (w.token x) x (w.carries_it x) e)

abbrev pub one_codec : {T A : Type 0} {c : Cutting T} {g : Grammar T} (k : Carries g A)
    (means : A → Meaning) (P : A → Type 0) → OneCanonical c k means P → Codec c g A
one_codec k means P w = record {
  canonical = one_canonical k means P w;
  encoding = one_of k means P;
  is_written = one_is_written k means P w;
  sound = λ _. Unit {0};
  reads_back = one_reads_back k means P w;
  encoded_is_sound = λ x ts h. tt;
  null_alone = one_null_alone k means P w;
}

-- ==== the unit

-- ---- the encoding, the canonical text and the format

pub unit_encoding : {T : Type 0} (g : Grammar T) (tokens : List T) → BeginsValue g tokens
    → IsEncoding g LegalUnit (EncodesUnit tokens)
unit_encoding {T} g tokens begins = record {
  is_legal = λ ts m h. h.is;
  one_value = λ ts m n h k. h.is ∙ sym k.is;
  none_begins = λ ts more m n h k.
      nothing_after tokens more (sym (ap (λ (us : List T). us ++ more) h.one) ∙ k.one);
  begins = λ ts m h. subst (BeginsValue g) (sym h.one) begins;
}

module _ {T : Type 0} {c : Cutting T} {g : Grammar T} (s : UnitStyle c g) where
  abbrev pub unit_of : Encoding g
  unit_of = record {
    legal = LegalUnit;
    encodes = EncodesUnit s.tokens;
    laws = unit_encoding g s.tokens s.begins;
  }

  abbrev pub unit_codec : {A : Type 0} → Codec c g A
  unit_codec = record {
    canonical = (unit_canonical s);
    encoding = unit_of;
    is_written = λ x h d. s.is_written;
    sound = λ _. Unit {0};
    reads_back = λ x h _. record { one = refl; is = refl };
    encoded_is_sound = λ x ts h. tt;
    null_alone = λ x ts e h. subst (StartsWith g.none) (sym h.one) e;
  }

-- ==== numbers

pub below_8 : (n : ℕ) → n < 2 ^ 8 → n < 2 ^ 64
below_8 n h = omega (arith, h)

pub below_16 : (n : ℕ) → n < 2 ^ 16 → n < 2 ^ 64
below_16 n h = omega (arith, h)

pub below_32 : (n : ℕ) → n < 2 ^ 32 → n < 2 ^ 64
below_32 n h = omega (arith, h)

pub below_64 : (n : ℕ) → n < 2 ^ 64 → n < 2 ^ 64
below_64 n h = h

pub within_8 : (z : ℤ) → FitsSigned w8 z → FitsSigned w64 z
within_8 z h = let small = h.sfits in record { sfits = omega (arith, small) }

pub within_16 : (z : ℤ) → FitsSigned w16 z → FitsSigned w64 z
within_16 z h = let small = h.sfits in record { sfits = omega (arith, small) }

pub within_32 : (z : ℤ) → FitsSigned w32 z → FitsSigned w64 z
within_32 z h = let small = h.sfits in record { sfits = omega (arith, small) }

pub within_64 : (z : ℤ) → FitsSigned w64 z → FitsSigned w64 z
within_64 z h = h

-- ==== integers

-- a number between the least and the greatest fits
between : (w : Width) (k : ℕ) (z : ℤ) → 2 ^ hbits w ≡ k + 1 → negsuc k ≤ℤ z → z ≤ℤ pos k → FitsSigned w z
between w k (pos n) e low high = record { sfits = omega (arith, ints, e, low, high) }
between w k (negsuc n) e low high = record { sfits = omega (arith, ints, e, low, high) }

at_least : (w : Width) (k : ℕ) (z : ℤ) → 2 ^ hbits w ≡ k + 1 → FitsSigned w z → negsuc k ≤ℤ z
at_least w k (pos n) e h = omega (arith, ints)
at_least w k (negsuc n) e h = let small = h.sfits in omega (arith, ints, e, small)

at_most : (w : Width) (k : ℕ) (z : ℤ) → 2 ^ hbits w ≡ k + 1 → FitsSigned w z → z ≤ℤ pos k
at_most w k (pos n) e h = let small = h.sfits in omega (arith, ints, e, small)
at_most w k (negsuc n) e h = omega (arith, ints)

-- a number between two of 64 bits is one
pub inside : (min max z : ℤ) → FitsSigned w64 min → FitsSigned w64 max → min ≤ℤ z → z ≤ℤ max
    → FitsSigned w64 z
inside min (pos m) (pos n) lo hi a b = let s = hi.sfits in record { sfits = omega (arith, ints, s, b) }
inside min (negsuc m) (pos n) lo hi a b = absurd (omega (arith, ints, b))
inside (pos k) max (negsuc n) lo hi a b = absurd (omega (arith, ints, a))
inside (negsuc k) max (negsuc n) lo hi a b = let s = lo.sfits in record { sfits = omega (arith, ints, s, a) }

-- what is in the range of a width fits it
pub range_fits : (w : Width) (min max z : ℤ) → IsRangeOf w min max → min ≤ℤ z → z ≤ℤ max → FitsSigned w z
range_fits w (negsuc k) (pos n) z h low high =
    between w n z h.1 (subst (λ j. negsuc j ≤ℤ z) h.0 low) high
range_fits w (negsuc k) (negsuc n) z h low high = absurd h
range_fits w (pos k) max z h low high = absurd h

-- and what fits a width is in its range
pub fits_range : (w : Width) (min max z : ℤ) → IsRangeOf w min max → FitsSigned w z → (min ≤ℤ z) × (z ≤ℤ max)
fits_range w (negsuc k) (pos n) z h fits =
    (subst (λ j. negsuc j ≤ℤ z) (sym h.0) (at_least w n z h.1 fits), at_most w n z h.1 fits)
fits_range w (negsuc k) (negsuc n) z h fits = absurd h
fits_range w (pos k) max z h fits = absurd h

-- what is not less, whatever the two were computed from
pub in_order : (low low_is high high_is : ℤ) → low ≡ low_is → high ≡ high_is → lt_z high low ≡ false
    → low_is ≤ℤ high_is
in_order low low_is high high_is low_same high_same e =
    subst (λ m. low_is ≤ℤ m) high_same
    (subst (λ m. m ≤ℤ high) low_same (lt_z_no {a = high} {b = low} (subst (λ b. T (not b)) (sym e) tt)))
