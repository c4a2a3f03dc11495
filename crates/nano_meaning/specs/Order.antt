-- A total order of the meanings, which makes them the keys of finite maps and sets. It need not be
-- the `Ord` of a type.
use Rattle.std.specs.Prelude.{ℕ, List, [], ◌∷◌, ◌++◌, length, ℤ, pos, negsuc, ◌≡◌, Option, Some}
use Rattle.std.specs.Prelude.{None, ◌<◌, slice_index}
use Rattle.std.specs.declared.cmp.Ordering.{Ordering}
use Rattle.std.specs.Ordering.{nat_cmp, on, then_cmp}
use Rattle.std.specs.Cmp.Lexicographic.{slice_cmp}
use Rattle.std.specs.Cmp.{IsTotalOrder}
use Rattle.std.specs.FinMap.{IsAntisymmetric}
use Rattle.std.proofs.Common.{Bor}
use Rattle.std.specs.declared.cmp.Ordering.TheVariants.{Less}
use Rattle.std.specs.Int.{from_be_bytes, w64}
use Rattle.std.specs.List.{Contains}
use Rattle.nano_meaning.specs.Meaning.{Meaning, number, text, nothing, both}

-- whether a number is below zero, and its size
unfoldable pub sign : ℤ → ℕ
sign (pos n) = 0
sign (negsuc n) = 1

unfoldable pub size : ℤ → ℕ
size (pos n) = n
size (negsuc n) = n

-- a meaning as a list of numbers
unfoldable pub code : Meaning → List ℕ
code (number z) = 0 ∷ sign z ∷ size z ∷ []
code (text bytes) = 1 ∷ length bytes ∷ bytes
code nothing = 2 ∷ []
code (both a b) = 3 ∷ (code a ++ code b)

-- the order of the codes
unfoldable pub meaning_cmp : Meaning → Meaning → Ordering
meaning_cmp a b = slice_cmp nat_cmp (code a) (code b)

-- ==== orders of meanings, which the orders of keys follow

-- a total order of the meanings, in which only the same ones compare equal
pub record MeaningOrder : Type 0 where
  pub cmp : Meaning → Meaning → Ordering
  pub total : IsTotalOrder cmp
  pub same : IsAntisymmetric cmp

-- values compare as what they mean does
abbrev pub Follows : {A : Type 0} → (A → A → Ordering) → (A → Meaning) → MeaningOrder → Type 0
Follows {A} R means o = (x y : A) → R x y ≡ o.cmp (means x) (means y)

-- the order of values by what they mean
abbrev pub by_meaning : {A : Type 0} → (A → Meaning) → MeaningOrder → A → A → Ordering
by_meaning means o x y = o.cmp (means x) (means y)

-- ---- what is seen of a meaning

abbrev pub number_of : Meaning → ℤ
number_of (number z) = z
number_of (text bytes) = pos 0
number_of nothing = pos 0
number_of (both a b) = pos 0

abbrev pub whole_of : Meaning → ℕ
whole_of (number (pos n)) = n
whole_of (number (negsuc n)) = 0
whole_of (text bytes) = 0
whole_of nothing = 0
whole_of (both a b) = 0

abbrev pub text_of : Meaning → List ℕ
text_of (number z) = []
text_of (text bytes) = bytes
text_of nothing = []
text_of (both a b) = []

abbrev pub item_of : Meaning → Option Meaning
item_of (number z) = None
item_of (text bytes) = None
item_of nothing = None
item_of (both a b) = Some a

abbrev pub parts_of : Meaning → Meaning × Meaning
parts_of (number z) = (nothing, nothing)
parts_of (text bytes) = (nothing, nothing)
parts_of nothing = (nothing, nothing)
parts_of (both a b) = (a, b)

abbrev pub items_of : Meaning → List Meaning
items_of (number z) = []
items_of (text bytes) = []
items_of nothing = []
items_of (both a b) = a ∷ items_of b

-- ---- the orders of the types

abbrev pub parts_cmp : MeaningOrder → MeaningOrder → Meaning × Meaning → Meaning × Meaning
    → Ordering
parts_cmp o p = then_cmp (on (λ x. x.0) o.cmp) (on (λ x. x.1) p.cmp)

-- ==== ranks of entries by their keys

-- of two entries whose ranks differ, the one with the lower rank has the key that stands first
abbrev pub RanksRise : {K V : Type 0} → (K → Meaning) → MeaningOrder → List (ℕ × (Bor K × V))
    → Type 0
RanksRise {K} {V} means o entries = (x y : ℕ × (Bor K × V)) → Contains entries x
    → Contains entries y → x.0 < y.0 → o.cmp (means x.1.0.now) (means y.1.0.now) ≡ Less

-- the first eight bytes as a number, the first one highest; fewer have zeros after them
abbrev pub IsTextRank : List ℕ → ℕ → Type 0
IsTextRank bytes rank =
    ((i : ℕ) → slice_index bytes i < 256) × (rank ≡ from_be_bytes w64 bytes)

-- a text and what it begins with
abbrev pub BeginsWith : List ℕ → List ℕ → Type 0
BeginsWith prefix bytes = (rest : List ℕ) × (bytes ≡ prefix ++ rest)
