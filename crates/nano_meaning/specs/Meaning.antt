-- What the values of a program stand for.
use Rattle.std.specs.Prelude.{ℕ, ◌^◌, List, [], ◌∷◌, Option, Some, None, Bool, true, false, ℤ, pos}
use Rattle.std.specs.Prelude.{◌≡◌, ◌<◌, length, IsUtf8, FitsSigned}
use Rattle.std.specs.List.{AllByRecursion}
use Rattle.std.specs.Int.{Width}
use Rattle.std.specs.Bool.{Decides}

-- a number, a text by its bytes of UTF-8, nothing, or two meanings
pub data Meaning : Type 0 where
  number : ℤ → Meaning
  text : List ℕ → Meaning
  nothing : Meaning
  both : Meaning → Meaning → Meaning

-- an unsigned number
abbrev pub whole : ℕ → Meaning
whole n = number (pos n)

-- a boolean
abbrev pub truth : Bool → Meaning
truth false = whole 0
truth true = whole 1

-- an item that may be absent
abbrev pub optional : Option Meaning → Meaning
optional None = nothing
optional (Some m) = both m nothing

-- a list
abbrev pub listed : List Meaning → Meaning
listed [] = nothing
listed (m ∷ ms) = both m (listed ms)

-- a pair
abbrev pub paired : Meaning × Meaning → Meaning
paired p = both p.0 p.1

-- both parts of a pair, each by its function
abbrev pub pair_map : {A B C D : Type 0} → (A → C) → (B → D) → A × B → C × D
pair_map f g p = (f p.0, g p.1)

-- one more than the greatest `usize`
abbrev pub usize_bound : ℕ
usize_bound = 2 ^ 64

-- ==== what a format says of a type, and what is so

-- what a format says that the values mean is what they mean, and it calls legal what is legal
pub record Agrees {A : Type 0} (means : A → Meaning) (legal : Meaning → Type 0) (seen : A → Meaning)
    (allowed : Meaning → Type 0) : Type 0 where
  pub means_is : seen ≡ means
  pub allows : (m : Meaning) → legal m → allowed m
  pub is_legal : (m : Meaning) → allowed m → legal m

-- ==== which meanings the values of a type have

-- the meaning is what a part that has the property is mapped to
pub record IsImage {A : Type 0} (f : A → Meaning) (P : A → Type 0) (m : Meaning) : Type 0 where
  pub part : A
  pub has : P part
  pub is : m ≡ f part

-- an unsigned number of so many bits
abbrev pub LegalUnsigned : ℕ → Meaning → Type 0
LegalUnsigned bits = IsImage whole (λ n. n < 2 ^ bits)

-- a signed number of a width
abbrev pub LegalSigned : Width → Meaning → Type 0
LegalSigned w = IsImage number (FitsSigned w)

abbrev pub LegalTruth : Meaning → Type 0
LegalTruth = IsImage truth (λ _. Unit {0})

abbrev pub LegalUnit : Meaning → Type 0
LegalUnit m = m ≡ nothing

-- UTF-8 whose length is a `usize`
pub record IsText (bytes : List ℕ) : Type 0 where
  pub count : length bytes < usize_bound
  pub utf8 : IsUtf8 bytes

abbrev pub LegalText : Meaning → Type 0
LegalText = IsImage text IsText

-- absent, or a legal item
abbrev pub AllOfOption : {A : Type 0} → (A → Type 0) → Option A → Type 0
AllOfOption P None = Unit {0}
AllOfOption P (Some x) = P x

abbrev pub LegalOption : (Meaning → Type 0) → Meaning → Type 0
LegalOption P = IsImage optional (AllOfOption P)

-- a count that is a `usize`, and items that have the property
pub record AllOfList {A : Type 0} (P : A → Type 0) (xs : List A) : Type 0 where
  pub count : length xs < usize_bound
  pub items : AllByRecursion P xs

abbrev pub LegalList : (Meaning → Type 0) → Meaning → Type 0
LegalList P = IsImage listed (AllOfList P)

-- so many items that have the property
pub record AllOfCount {A : Type 0} (count : ℕ) (P : A → Type 0) (xs : List A) : Type 0 where
  pub count_is : length xs ≡ count
  pub items : AllByRecursion P xs

abbrev pub LegalArray : ℕ → (Meaning → Type 0) → Meaning → Type 0
LegalArray count P = IsImage listed (AllOfCount count P)

-- each part of a pair has its property
abbrev pub BothOfPair : {A B : Type 0} → (A → Type 0) → (B → Type 0) → A × B → Type 0
BothOfPair P Q p = P p.0 × Q p.1

abbrev pub LegalPair : (Meaning → Type 0) → (Meaning → Type 0) → Meaning → Type 0
LegalPair P Q = IsImage paired (BothOfPair P Q)

-- ==== tests of equality that hold of two values exactly where they mean the same

-- the test is true of two values exactly where they mean the same
abbrev pub EqAgrees : {A : Type 0} → (A → A → Bool) → (A → Meaning) → Type 0
EqAgrees {A} test means = (x y : A) → Decides (test x y) (means x ≡ means y)
