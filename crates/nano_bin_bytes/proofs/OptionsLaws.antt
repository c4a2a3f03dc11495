-- What is proved of Options.
use Rattle.std.specs.Prelude.{◌≡◌, ℕ, true, refl, List, [], ◌++◌, Option, Some, None}
use Rattle.std.specs.Option.{option_map}
use Rattle.std.proofs.Common.{sym, ◌∙◌, subst, ap, lit<, arith, append_assoc}
use Rattle.nano_value.specs.Meaning.{Meaning, optional, IsImage, AllOfOption}
use Rattle.nano_meaning.proofs.MeaningLaws.{both_injective}
use Rattle.nano_bin_bytes.specs.Codec.{IsEncoding, Canonical, Codec}
use Rattle.nano_bin_bytes.proofs.ScalarsLaws.{number_encoding}
use Rattle.nano_bin_bytes.specs.Scalars.{EncodesNumber, little_endian}
use Rattle.nano_bin_bytes.proofs.TuplesLaws.{pair_encoding}
use Rattle.nano_bin_bytes.specs.Containers.{EncodesOption, written_option}

module _ {A : Type 0} {P : A → Type 0} {S : List ℕ → A → Type 0} (s : IsEncoding P S) where
  option_is_legal : (a : List ℕ) (x : Option A) → EncodesOption S a x → AllOfOption P x
  option_is_legal a None h = tt
  option_is_legal a (Some x) h = s.is_legal h.tail x h.second

  -- no bytes begin with an absent and with a present item
  none_or_some : (a b m n : List ℕ) (x : A) → EncodesOption S a None → EncodesOption S b (Some x)
      → a ++ m ≡ b ++ n → ⊥
  none_or_some a b m n x h j e =
      let w = e ∙ (ap (λ l. l ++ n) j.whole ∙ append_assoc j.head j.tail n) in
      let p = (number_encoding 1).one_prefix a j.head m (j.tail ++ n) h.0 1 h.2 j.first w in
      h.1 ((number_encoding 1).one_value a h.0 1 h.2
      (subst (λ l. EncodesNumber 1 l 1) (sym p) j.first))

  option_value : (a : List ℕ) (x y : Option A) → EncodesOption S a x → EncodesOption S a y → x ≡ y
  option_value a None None h j = refl
  option_value a None (Some y) h j = absurd (none_or_some a a [] [] y h j refl)
  option_value a (Some x) None h j = absurd (none_or_some a a [] [] x j h refl)
  option_value a (Some x) (Some y) h j =
      ap (λ p. Some p.1) ((pair_encoding (number_encoding 1) s).one_value a (1, x) (1, y) h j)

  option_prefix : (a b m n : List ℕ) (x y : Option A) → EncodesOption S a x → EncodesOption S b y
      → a ++ m ≡ b ++ n → a ≡ b
  option_prefix a b m n None None h j e = (number_encoding 1).one_prefix a b m n h.0 j.0 h.2 j.2 e
  option_prefix a b m n None (Some y) h j e = absurd (none_or_some a b m n y h j e)
  option_prefix a b m n (Some x) None h j e = absurd (none_or_some b a n m x j h (sym e))
  option_prefix a b m n (Some x) (Some y) h j e =
      (pair_encoding (number_encoding 1) s).one_prefix a b m n (1, x) (1, y) h j e

  pub option_encoding : IsEncoding (AllOfOption P) (EncodesOption S)
  option_encoding = record {
    is_legal = option_is_legal;
    one_value = option_value;
    one_prefix = option_prefix;
  }

module _ {A : Type 0} (w : Canonical A) where
  pub option_same : (x y : Option A)
      → optional (option_map w.means x) ≡ optional (option_map w.means y)
      → written_option w.written x ≡ written_option w.written y
  option_same None None e = refl
  option_same None (Some y) e = absurd (cc)
  option_same (Some x) None e = absurd (cc)
  option_same (Some x) (Some y) e =
      ap (λ l. little_endian 1 1 ++ l) (w.same_written x y (both_injective _ _ _ _ e).0)

optional_reported : {A : Type 0} (means : A → Meaning) (x : Option A) (m : Option Meaning)
    → optional (option_map means x) ≡ optional m → option_map means x ≡ m
optional_reported means None None e = refl
optional_reported means None (Some m) e = absurd (cc)
optional_reported means (Some x) None e = absurd (cc)
optional_reported means (Some x) (Some m) e = ap Some (both_injective _ _ _ _ e).0

zero_is_other : ◌≡◌ {A = ℕ} 0 1 → ⊥
zero_is_other e = omega arith

module _ {A : Type 0} (f : Codec A) where
  some_or_none_back :
      f.is_decodable ≡ true
      → (x : Option A)
      → AllOfOption f.encoding.legal (option_map f.canonical.means x)
      → EncodesOption f.encoding.encodes (written_option f.canonical.written x)
      (option_map f.canonical.means x)
  some_or_none_back is None h =
      (0, zero_is_other, record { fits = lit< tt; whole = refl })
  some_or_none_back is (Some x) h = record {
    head = little_endian 1 1;
    tail = f.canonical.written x;
    whole = refl;
    first = record { fits = lit< tt; whole = refl };
    second = f.reads_back is x h;
  }

  pub option_reads_back :
      f.is_decodable ≡ true
      → (x : Option A)
      → IsImage optional (AllOfOption f.encoding.legal) (optional (option_map f.canonical.means x))
      → IsImage optional (EncodesOption f.encoding.encodes (written_option f.canonical.written x))
      (optional (option_map f.canonical.means x))
  option_reads_back is x h =
      let reported = optional_reported f.canonical.means x h.part h.is in
      let all = subst (AllOfOption f.encoding.legal) (sym reported) h.has in
      record { part = option_map f.canonical.means x; has = some_or_none_back is x all; is = refl }
