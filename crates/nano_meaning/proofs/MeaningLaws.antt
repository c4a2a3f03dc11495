-- What is proved of Meaning.
use Rattle.std.specs.Prelude.{◌≡◌, ℕ, List, [], ◌∷◌, Bool, true, false, refl, ℤ, pos, ◌<◌, ◌≤◌}
use Rattle.std.specs.Prelude.{drop, map, length, Option, Some, None}
use Rattle.std.specs.List.{AllByRecursion}
use Rattle.std.proofs.Common.{sym, subst, ◌∙◌}
use Rattle.std.proofs.lemmas.List.{drop_all, length-map}
use Rattle.nano_meaning.specs.Meaning.{Meaning, number, text, both, whole, truth, listed, optional}
use Rattle.nano_meaning.specs.Meaning.{paired, usize_bound, IsImage, AllOfOption, LegalOption}
use Rattle.nano_meaning.specs.Meaning.{AllOfList, LegalList, AllOfCount, LegalArray, BothOfPair}
use Rattle.nano_meaning.specs.Meaning.{LegalPair}

-- ---- what is built from different parts is different

pub number_injective : (y z : ℤ) → number y ≡ number z → y ≡ z
number_injective y z e = cc

pub pos_injective : (m n : ℕ) → pos m ≡ pos n → m ≡ n
pos_injective m n e = cc

pub whole_injective : (m n : ℕ) → whole m ≡ whole n → m ≡ n
whole_injective m n e = pos_injective m n (number_injective (pos m) (pos n) e)

pub text_injective : (xs ys : List ℕ) → text xs ≡ text ys → xs ≡ ys
text_injective xs ys e = cc

pub both_injective : (a b c d : Meaning) → both a b ≡ both c d → (a ≡ c) × (b ≡ d)
both_injective a b c d e = (cc, cc)

pub truth_injective : (b c : Bool) → truth b ≡ truth c → b ≡ c
truth_injective false false e = refl
truth_injective true true e = refl
truth_injective false true e = let one = whole_injective 0 1 e in absurd (cc one)
truth_injective true false e = let one = whole_injective 1 0 e in absurd (cc one)

pub listed_injective : (ms ns : List Meaning) → listed ms ≡ listed ns → ms ≡ ns
listed_injective [] [] e = refl
listed_injective [] (n ∷ ns) e = absurd (cc)
listed_injective (m ∷ ms) [] e = absurd (cc)
listed_injective (m ∷ ms) (n ∷ ns) e =
    let parts = both_injective m (listed ms) n (listed ns) e in
    λ i. parts.0 i ∷ listed_injective ms ns parts.1 i

-- ==== legal meanings

-- ---- how `known` proves them

-- the image of a part with the property
pub image_of : {A : Type 0} (f : A → Meaning) (P : A → Type 0) (x : A) → P x → IsImage f P (f x)
image_of f P x h = record { part = x; has = h; is = refl }

pub all-map : {A B : Type 0} (P : B → Type 0) (f : A → B) (xs : List A)
    → AllByRecursion (λ x. P (f x)) xs → AllByRecursion P (map f xs)
all-map P f [] h = tt
all-map P f (x ∷ xs) h = (h.0, all-map P f xs h.1)

-- all items are legal, where they are if those from a place past the end on are
pub all_walked : {A : Type 0} (P : A → Type 0) (place : ℕ) (xs : List A) → length xs ≤ place
    → (AllByRecursion P (drop place xs) → AllByRecursion P xs) → AllByRecursion P xs
all_walked P place xs past walked =
    walked (subst (AllByRecursion P) (sym (drop_all place xs past)) tt)

-- a list of legal items is legal
pub list_is_legal : {A : Type 0} (means : A → Meaning) (P : Meaning → Type 0) (xs : List A)
    → length xs < usize_bound → AllByRecursion (λ x. P (means x)) xs
    → LegalList P (listed (map means xs))
list_is_legal means P xs count all =
    image_of listed (AllOfList P) (map means xs) (record {
      count =
          subst (λ n. n < usize_bound) (sym (length-map xs means)) count;
      items =
          all-map P means xs all;
    })

-- an array of legal items is legal
pub array_is_legal : {A : Type 0} (means : A → Meaning) (P : Meaning → Type 0) (count : ℕ)
    (xs : List A) → length xs ≡ count → AllByRecursion (λ x. P (means x)) xs
    → LegalArray count P (listed (map means xs))
array_is_legal means P count xs long all =
    image_of listed (AllOfCount count P) (map means xs) (record
    { count_is = length-map xs means ∙ long; items = all-map P means xs all })

-- a pair of legal parts is legal
pub pair_is_legal : (P Q : Meaning → Type 0) (m n : Meaning) → P m → Q n
    → LegalPair P Q (paired (m, n))
pair_is_legal P Q m n h k = image_of paired (BothOfPair P Q) (m, n) (h, k)

-- a present item that is legal makes a legal option
pub some_is_legal : (P : Meaning → Type 0) (m : Meaning) → P m → LegalOption P (optional (Some m))
some_is_legal P m h = image_of optional (AllOfOption P) (Some m) h

pub none_is_legal : (P : Meaning → Type 0) → LegalOption P (optional None)
none_is_legal P = image_of optional (AllOfOption P) None tt

-- ---- what holds of more parts

image_weaker : {A : Type 0} (f : A → Meaning) (P Q : A → Type 0) → ((x : A) → P x → Q x)
    → (m : Meaning) → IsImage f P m → IsImage f Q m
image_weaker f P Q weaker m h = record { part = h.part; has = weaker h.part h.has; is = h.is }

pub all_weaker : {A : Type 0} (P Q : A → Type 0) → ((x : A) → P x → Q x) → (xs : List A)
    → AllByRecursion P xs → AllByRecursion Q xs
all_weaker P Q weaker [] h = tt
all_weaker P Q weaker (x ∷ xs) h = (weaker x h.0, all_weaker P Q weaker xs h.1)

module _ (P Q : Meaning → Type 0) (weaker : (m : Meaning) → P m → Q m) where
  all_of_option_weaker : (m : Option Meaning) → AllOfOption P m → AllOfOption Q m
  all_of_option_weaker None h = tt
  all_of_option_weaker (Some m) h = weaker m h

  pub option_weaker : (m : Meaning) → LegalOption P m → LegalOption Q m
  option_weaker = image_weaker optional (AllOfOption P) (AllOfOption Q) all_of_option_weaker

  pub list_weaker : (m : Meaning) → LegalList P m → LegalList Q m
  list_weaker =
      image_weaker listed (AllOfList P) (AllOfList Q) (λ ms h. record
      { count = h.count; items = all_weaker P Q weaker ms h.items })

  pub array_weaker : (count : ℕ) (m : Meaning) → LegalArray count P m → LegalArray count Q m
  array_weaker count =
      image_weaker listed (AllOfCount count P) (AllOfCount count Q)
      (λ ms h. record { count_is = h.count_is; items = all_weaker P Q weaker ms h.items })

pub pair_weaker : (P P' Q Q' : Meaning → Type 0) → ((m : Meaning) → P m → P' m)
    → ((m : Meaning) → Q m → Q' m) → (m : Meaning) → LegalPair P Q m → LegalPair P' Q' m
pair_weaker P P' Q Q' first second =
    image_weaker paired (BothOfPair P Q) (BothOfPair P' Q') (λ p h. (first p.0 h.0, second p.1 h.1))
