-- What keys that are user-defined types are made of: structs by their parts, and enums whose variants
-- have no content by the places of these.
use Rattle.std.specs.Prelude.{◌≡◌, refl, ℕ, Bool, true, false, ◌&&◌, List, [], ◌∷◌, zero, suc}
use Rattle.std.specs.Prelude.{Some, nat_eq, string_bytes}
use Rattle.std.specs.List.{slice_get}
use Rattle.std.specs.Ordering.{nat_cmp, int_cmp, bool_cmp, int_eq, ordering_then}
use Rattle.std.specs.Cmp.{first_so, second_so, unsigned_Decides, nat_cmp_total, booleans_Decides}
use Rattle.std.specs.Cmp.Lexicographic.{pointwise, slice_cmp}
use Rattle.std.specs.FinMap.{nat_cmp-IsAntisymmetric}
use Rattle.std.specs.declared.cmp.Ordering.{Ordering}
use Rattle.std.specs.declared.cmp.Ordering.TheVariants.{Less, Equal, Greater}
use Rattle.std.proofs.Common.{ap, sym, ◌∙◌, String, Global}
use mathlib.Core.Bool.{beq}
use Rattle.nano_value.specs.Meaning.{Meaning, EqAgrees, whole, number, truth, text, nothing, paired}
use Rattle.nano_value.specs.Meaning.{pair_map}
use Rattle.nano_value.specs.Order.{MeaningOrder, Follows, whole_of, parts_of}
use Rattle.nano_meaning.proofs.ExactLaws.{unsigned_tell, signed_tell, truths_tell, units_tell}
use Rattle.nano_meaning.proofs.ExactLaws.{texts_tell, pairs_tell, triples_tell, quadruples_tell}
use Rattle.nano_meaning.proofs.OrderLaws.{order_by, order_by-is, pairs, wholes, numbers, texts, meanings}
use Rattle.nano_meaning.proofs.OrderLaws.{unsigned_follow, signed_follow, truths_follow, units_follow}
use Rattle.nano_meaning.proofs.OrderLaws.{texts_follow, pairs_follow, triples_follow, quadruples_follow}

-- ==== which values `==` tells apart

-- `==` of a type is true of two values exactly where they mean the same
pub record IsExact {A : Type 0} (test : A → A → Bool) (means : A → Meaning) : Type 0 where
  pub exact : EqAgrees test means

pub exact_by : {A : Type 0} (test : A → A → Bool) (means : A → Meaning) → EqAgrees test means
    → IsExact test means
exact_by test means h = record { exact = h }

pub exact_unsigned : IsExact nat_eq whole
exact_unsigned = record { exact = unsigned_tell }

pub exact_signed : IsExact int_eq number
exact_signed = record { exact = signed_tell }

pub exact_bool : IsExact beq truth
exact_bool = record { exact = truths_tell }

pub exact_unit : IsExact {A = Unit {0}} (λ x y. true) (λ x. nothing)
exact_unit = record { exact = units_tell }

pub exact_text : IsExact {A = String Global}
    (λ x y. pointwise nat_eq (string_bytes x) (string_bytes y)) (λ x. text (string_bytes x))
exact_text = record { exact = texts_tell (λ x. string_bytes x) }

module _ {A B : Type 0} {f : A → Meaning} {g : B → Meaning} {a : A → A → Bool} {b : B → B → Bool}
    (s : IsExact a f) (t : IsExact b g) where
  pub exact_pair : IsExact (λ x y. a x.0 y.0 && b x.1 y.1) (λ x. paired (pair_map f g x))
  exact_pair = record { exact = pairs_tell f a g b s.exact t.exact }

  module _ {C : Type 0} {h : C → Meaning} {c : C → C → Bool} (u : IsExact c h) where
    pub exact_triple : IsExact (λ x y. (a x.0 y.0 && b x.1 y.1) && c x.2 y.2)
        (λ (x : A × B × C). paired (f x.0, paired (g x.1, h x.2)))
    exact_triple = record { exact = triples_tell f a g b h c s.exact t.exact u.exact }

    module _ {D : Type 0} {k : D → Meaning} {d : D → D → Bool} (v : IsExact d k) where
      pub exact_quadruple :
          IsExact (λ x y. ((a x.0 y.0 && b x.1 y.1) && c x.2 y.2) && d x.3 y.3)
          (λ (x : A × B × C × D). paired (f x.0, paired (g x.1, paired (h x.2, k x.3))))
      exact_quadruple = record {
        exact = quadruples_tell f a g b h c k d s.exact t.exact u.exact v.exact;
      }

-- ==== how values compare

-- `cmp` of a type compares two values as what they mean is compared
pub record IsOrdered {A : Type 0} (R : A → A → Ordering) (means : A → Meaning)
    (order : MeaningOrder) : Type 0 where
  pub follows : Follows R means order

pub ordered_by : {A : Type 0} (R : A → A → Ordering) (means : A → Meaning) (order : MeaningOrder)
    → Follows R means order → IsOrdered R means order
ordered_by R means order h = record { follows = h }

pub ordered_unsigned : IsOrdered nat_cmp whole wholes
ordered_unsigned = record { follows = unsigned_follow }

pub ordered_signed : IsOrdered int_cmp number numbers
ordered_signed = record { follows = signed_follow }

pub ordered_bool : IsOrdered bool_cmp truth wholes
ordered_bool = record { follows = truths_follow }

pub ordered_unit : IsOrdered {A = Unit {0}} (λ x y. Equal) (λ x. nothing) meanings
ordered_unit = record { follows = units_follow }

pub ordered_text : IsOrdered {A = String Global}
    (λ x y. slice_cmp nat_cmp (string_bytes x) (string_bytes y)) (λ x. text (string_bytes x)) texts
ordered_text = record { follows = texts_follow (λ x. string_bytes x) }

module _ {A B : Type 0} {f : A → Meaning} {g : B → Meaning} {R : A → A → Ordering}
    {S : B → B → Ordering} {o p : MeaningOrder} (s : IsOrdered R f o) (t : IsOrdered S g p) where
  pub ordered_pair : IsOrdered (λ x y. ordering_then (R x.0 y.0) (S x.1 y.1))
      (λ x. paired (pair_map f g x)) (pairs o p)
  ordered_pair = record { follows = pairs_follow R f o S g p s.follows t.follows }

  module _ {C : Type 0} {h : C → Meaning} {U : C → C → Ordering} {q : MeaningOrder}
      (u : IsOrdered U h q) where
    pub ordered_triple :
        IsOrdered (λ x y. ordering_then (ordering_then (R x.0 y.0) (S x.1 y.1)) (U x.2 y.2))
        (λ (x : A × B × C). paired (f x.0, paired (g x.1, h x.2))) (pairs o (pairs p q))
    ordered_triple = record {
      follows = triples_follow R f o S g p U h q s.follows t.follows u.follows;
    }

    module _ {D : Type 0} {k : D → Meaning} {V : D → D → Ordering} {r : MeaningOrder}
        (v : IsOrdered V k r) where
      pub ordered_quadruple :
          IsOrdered (λ x y. ordering_then (ordering_then (ordering_then (R x.0 y.0) (S x.1 y.1))
          (U x.2 y.2)) (V x.3 y.3))
          (λ (x : A × B × C × D). paired (f x.0, paired (g x.1, paired (h x.2, k x.3))))
          (pairs o (pairs p (pairs q r)))
      ordered_quadruple = record {
        follows = quadruples_follow R f o S g p U h q V k r s.follows t.follows u.follows
            v.follows;
      }

-- ==== enums

-- the place of the variant that a meaning is
abbrev pub place_of : Meaning → ℕ
place_of m = whole_of (parts_of m).0

-- the order of the variants' places
abbrev pub variants : MeaningOrder
variants = order_by place_of nat_cmp nat_cmp_total

-- ---- tests of listed values

-- whether a test is true of each item
abbrev pub all_are : {A : Type 0} → (A → Bool) → List A → Bool
all_are test [] = true
all_are test (x ∷ xs) = test x && all_are test xs

-- whether a test is true of each two items
abbrev pub all_pairs_are : {A : Type 0} → (A → A → Bool) → List A → Bool
all_pairs_are test xs = all_are (λ x. all_are (test x) xs) xs

-- whether two answers of `cmp` are the same
abbrev pub same_order : Ordering → Ordering → Bool
same_order Less Less = true
same_order Less Equal = false
same_order Less Greater = false
same_order Equal Less = false
same_order Equal Equal = true
same_order Equal Greater = false
same_order Greater Less = false
same_order Greater Equal = false
same_order Greater Greater = true

same_order-is : (r s : Ordering) → same_order r s ≡ true → r ≡ s
same_order-is Less Less e = refl
same_order-is Less Equal e = absurd (cc)
same_order-is Less Greater e = absurd (cc)
same_order-is Equal Less e = absurd (cc)
same_order-is Equal Equal e = refl
same_order-is Equal Greater e = absurd (cc)
same_order-is Greater Less e = absurd (cc)
same_order-is Greater Equal e = absurd (cc)
same_order-is Greater Greater e = refl

one_is : {A : Type 0} (test : A → Bool) (xs : List A) (i : ℕ) (x : A) → all_are test xs ≡ true
    → slice_get xs i ≡ Some x → test x ≡ true
one_is test [] i x h e = absurd (cc)
one_is test (y ∷ ys) zero x h e =
    let same : y ≡ x = cc in
    ap test (sym same) ∙ first_so (test y) (all_are test ys) h
one_is test (y ∷ ys) (suc i) x h e = one_is test ys i x (second_so (test y) (all_are test ys) h) e

-- ---- listed values of an enum

-- a value stands in a list at the place of its variant
pub record IsPlaced {E : Type 0} (means : E → Meaning) (values : List E) (x : E) : Type 0 where
  pub is : slice_get values (place_of (means x)) ≡ Some x

pub placed : {E : Type 0} {means : E → Meaning} {values : List E} {x : E}
    → slice_get values (place_of (means x)) ≡ Some x → IsPlaced means values x
placed h = record { is = h }

-- of an enum whose values are listed in the order of the variants. What `==` and `cmp` answer is
-- computed for each two of the list
module _ {E : Type 0} {means : E → Meaning} {values : List E}
    (all : (x : E) → IsPlaced means values x) where
  pair_is : (test : E → E → Bool) → all_pairs_are test values ≡ true → (x y : E) → test x y ≡ true
  pair_is test h x y =
      one_is (test x) values (place_of (means y)) y
      (one_is (λ z. all_are (test z) values) values (place_of (means x)) x h (all x).is) (all y).is

  same_place : (x y : E) → place_of (means x) ≡ place_of (means y) → x ≡ y
  same_place x y e =
      let found : Some x ≡ Some y = sym (all x).is ∙ (ap (slice_get values) e ∙ (all y).is) in cc

  -- two values are equal where their places are
  pub variants_tell : (test : E → E → Bool)
      → all_pairs_are (λ x y. beq (test x y) (nat_eq (place_of (means x)) (place_of (means y))))
      values ≡ true → EqAgrees test means
  variants_tell test h x y =
      let answer : test x y ≡ nat_eq (place_of (means x)) (place_of (means y)) =
      (booleans_Decides (test x y) (nat_eq (place_of (means x)) (place_of (means y)))).0
      (pair_is (λ x y. beq (test x y) (nat_eq (place_of (means x)) (place_of (means y)))) h x y) in
      let places = unsigned_Decides (place_of (means x)) (place_of (means y)) in (
        λ e. ap means (same_place x y (places.0 (sym answer ∙ e))),
        λ e. answer ∙ places.1 (ap place_of e),
      )

  -- two values compare as their places do
  pub variants_follow : (R : E → E → Ordering)
      → all_pairs_are (λ x y. same_order (R x y)
      (nat_cmp (place_of (means x)) (place_of (means y)))) values ≡ true
      → Follows R means variants
  variants_follow R h x y =
      same_order-is (R x y) (nat_cmp (place_of (means x)) (place_of (means y)))
      (pair_is (λ x y. same_order (R x y) (nat_cmp (place_of (means x)) (place_of (means y)))) h x
      y)
      ∙ order_by-is place_of nat_cmp nat_cmp_total (means x) (means y)
      (λ e. ap means (same_place x y (nat_cmp-IsAntisymmetric _ _ e)))
