-- What is proved of Choices.
use Rattle.std.specs.Prelude.{◌≡◌, ℕ, suc}
use Rattle.std.proofs.Common.{inl, inr}
use Rattle.nano_value.specs.Meaning.{Meaning, IsImage, Agrees}
use Rattle.nano_meaning.proofs.MeaningLaws.{image_of}
use Rattle.nano_value.specs.Sums.{Variants, no_variants, variant, tagged, LegalFrom, LegalVariant}
use Rattle.nano_schema.specs.Choices.{either_is}

-- ---- legal content

pub last_is_legal : (legal : Meaning → Type 0) (m : Meaning) → legal m → (from : ℕ)
    → LegalFrom from (variant legal no_variants) (tagged from m)
last_is_legal legal m h from = inl (image_of (tagged from) legal m h)

pub first_is_legal : (legal : Meaning → Type 0) (others : Variants) (m : Meaning) → legal m
    → (from : ℕ) → LegalFrom from (variant legal others) (tagged from m)
first_is_legal legal others m h from = inl (image_of (tagged from) legal m h)

pub later_is_legal : (legal : Meaning → Type 0) (others : Variants) (means : ℕ → Meaning)
    → ((from : ℕ) → LegalFrom from others (means from))
    → (from : ℕ) → LegalFrom from (variant legal others) (means (suc from))
later_is_legal legal others means h from = inr (h (suc from))

-- ---- agreement of a format

-- a format says of each of some variants what the type says, where the first has any place
pub record AgreesFrom {A : Type 0} (means : ℕ → A → Meaning) (legals : Variants)
    (seen : ℕ → A → Meaning) (allowed : Variants) : Type 0 where
  pub means_is : (from : ℕ) → seen from ≡ means from
  pub allows : (from : ℕ) (m : Meaning) → LegalFrom from legals m → LegalFrom from allowed m
  pub is_legal : (from : ℕ) (m : Meaning) → LegalFrom from allowed m → LegalFrom from legals m

image_weaker : (f : Meaning → Meaning) (P Q : Meaning → Type 0) → ((m : Meaning) → P m → Q m)
    → (m : Meaning) → IsImage f P m → IsImage f Q m
image_weaker f P Q h m i = record { part = i.part; has = h i.part i.has; is = i.is }

first_weaker : (P Q : Meaning → Type 0) (vs ws : Variants) → ((m : Meaning) → P m → Q m)
    → ((from : ℕ) (m : Meaning) → LegalFrom from vs m → LegalFrom from ws m)
    → (from : ℕ) (m : Meaning) → LegalFrom from (variant P vs) m → LegalFrom from (variant Q ws) m
first_weaker P Q vs ws h k from m (inl i) = inl (image_weaker (tagged from) P Q h m i)
first_weaker P Q vs ws h k from m (inr l) = inr (k (suc from) m l)

none_weaker : (from : ℕ) (m : Meaning) → LegalFrom from no_variants m → LegalFrom from no_variants m
none_weaker from m h = h

module _ {A : Type 0} {means : A → Meaning} {legal : Meaning → Type 0} {seen : A → Meaning}
    {allowed : Meaning → Type 0} (t : Agrees means legal seen allowed) where
  -- the last variant
  pub last_agrees : AgreesFrom (λ from x. tagged from (means x)) (variant legal no_variants)
      (λ from x. tagged from (seen x)) (variant allowed no_variants)
  last_agrees = record {
    means_is = λ from i x. tagged from (t.means_is i x);
    allows = first_weaker legal allowed no_variants no_variants t.allows none_weaker;
    is_legal = first_weaker allowed legal no_variants no_variants t.is_legal none_weaker;
  }

  -- a variant, and those after it
  pub next_agrees : {B : Type 0} {means' : ℕ → B → Meaning} {legals : Variants}
      {seen' : ℕ → B → Meaning} {alloweds : Variants} → AgreesFrom means' legals seen' alloweds
      → AgreesFrom (λ from. either_is (λ x. tagged from (means x)) (means' (suc from)))
      (variant legal legals)
      (λ from. either_is (λ x. tagged from (seen x)) (seen' (suc from)))
      (variant allowed alloweds)
  next_agrees {B} {means'} {legals} {seen'} {alloweds} u = record {
    means_is = λ from i. either_is (λ x. tagged from (t.means_is i x)) (u.means_is (suc from) i);
    allows = first_weaker legal allowed legals alloweds t.allows u.allows;
    is_legal = first_weaker allowed legal alloweds legals t.is_legal u.is_legal;
  }

-- an enum of these variants
pub choice_agrees : {A E : Type 0} {means : ℕ → A → Meaning} {legals : Variants}
    {seen : ℕ → A → Meaning} {allowed : Variants} → AgreesFrom means legals seen allowed
    → (view : E → A)
    → Agrees (λ x. means 0 (view x)) (LegalVariant legals) (λ x. seen 0 (view x))
    (LegalVariant allowed)
choice_agrees t view = record {
  means_is = λ i x. t.means_is 0 i (view x);
  allows = t.allows 0;
  is_legal = t.is_legal 0;
}
