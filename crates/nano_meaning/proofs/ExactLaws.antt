-- What is proved of Exact.
use Rattle.std.specs.Prelude.{◌≡◌, ℕ, Bool, true, false, ◌&&◌, refl, List, [], ◌∷◌, map, Some, None}
use Rattle.std.specs.Prelude.{nat_eq}
use mathlib.Core.Bool.{beq}
use Rattle.std.specs.Ordering.{int_eq}
use Rattle.std.specs.Bool.{Decides}
use Rattle.std.specs.Option.{option_map, option_eq}
use Rattle.std.specs.Cmp.{first_so, second_so, unsigned_Decides, signed_Decides, booleans_Decides}
use Rattle.std.specs.Cmp.Lexicographic.{pointwise, bytes_decides}
use Rattle.std.proofs.Common.{ap, sym, ◌∙◌, subst}
use Rattle.std.proofs.lemmas.Bool.{and_from}
use Rattle.nano_meaning.specs.Meaning.{Meaning, number, text, nothing, both, whole, truth, optional}
use Rattle.nano_meaning.specs.Meaning.{listed, paired, pair_map, EqAgrees}
use Rattle.nano_meaning.proofs.MeaningLaws.{number_injective, truth_injective, whole_injective}
use Rattle.nano_meaning.proofs.MeaningLaws.{text_injective, both_injective}

false_is_not_true : {P : Type 0} → false ≡ true → P
false_is_not_true h = absurd (cc)

pub unsigned_tell : EqAgrees nat_eq whole
unsigned_tell x y = (
  (λ e. ap whole ((unsigned_Decides x y).0 e)),
  λ e. (unsigned_Decides x y).1
      (whole_injective x y e),
)

pub signed_tell : EqAgrees int_eq number
signed_tell x y = (
  (λ e. ap number ((signed_Decides x y).0 e)),
  λ e. (signed_Decides x y).1
      (number_injective x y e),
)

pub truths_tell : EqAgrees beq truth
truths_tell x y = (
  (λ e. ap truth ((booleans_Decides x y).0 e)),
  λ e. (booleans_Decides x y).1
      (truth_injective x y e),
)

pub units_tell : {A : Type 0} (x y : A) → Decides true (nothing ≡ nothing)
units_tell x y = ((λ _. refl), λ _. refl)

pub texts_tell : {A : Type 0} (bytes : A → List ℕ)
    → EqAgrees (λ x y. pointwise nat_eq (bytes x) (bytes y)) (λ x. text (bytes x))
texts_tell bytes x y = (
  (λ e. ap text ((bytes_decides (bytes x) (bytes y)).0 e)),
  λ e.
      (bytes_decides (bytes x) (bytes y)).1 (text_injective (bytes x) (bytes y) e),
)

module _ {A : Type 0} (means : A → Meaning) (test : A → A → Bool) (reports : EqAgrees test means) where
  pub options_tell : EqAgrees (option_eq test) (λ x. optional (option_map means x))
  options_tell None None = (λ _. refl, λ _. refl)
  options_tell None (Some y) = (false_is_not_true, λ e. absurd (cc))
  options_tell (Some x) None = (false_is_not_true, λ e. absurd (cc))
  options_tell (Some x) (Some y) = (
    λ e. ap (λ m. both m nothing) ((reports x y).0 e),
    λ e. (reports x y).1
        (both_injective _ _ _ _ e).0,
  )

  pub lists_tell : EqAgrees (pointwise test) (λ xs. listed (map means xs))
  lists_tell [] [] = (λ _. refl, λ _. refl)
  lists_tell [] (y ∷ ys) = (false_is_not_true, λ e. absurd (cc))
  lists_tell (x ∷ xs) [] = (false_is_not_true, λ e. absurd (cc))
  lists_tell (x ∷ xs) (y ∷ ys) = (
    λ e i. both ((reports x y).0 (first_so (test x y) (pointwise test xs ys) e) i)
        ((lists_tell xs ys).0 (second_so (test x y) (pointwise test xs ys) e) i),
    λ e. let parts =
        both_injective (means x) (listed (map means xs)) (means y) (listed (map means ys)) e in
        and_from (test x y) (pointwise test xs ys) ((reports x y).1 parts.0)
        ((lists_tell xs ys).1 parts.1),
  )

pub pairs_tell : {A B : Type 0} (f : A → Meaning) (test : A → A → Bool) (g : B → Meaning)
    (test' : B → B → Bool) → EqAgrees test f → EqAgrees test' g
    → EqAgrees (λ x y. test x.0 y.0 && test' x.1 y.1) (λ x. paired (pair_map f g x))
pairs_tell f test g test' t u x y = (
  λ e i. both ((t x.0 y.0).0 (first_so (test x.0 y.0) (test' x.1 y.1) e) i)
      ((u x.1 y.1).0 (second_so (test x.0 y.0) (test' x.1 y.1) e) i),
  λ e. let parts = both_injective (f x.0) (g x.1) (f y.0) (g y.1) e in
      and_from (test x.0 y.0) (test' x.1 y.1) ((t x.0 y.0).1 parts.0) ((u x.1 y.1).1 parts.1),
)

and_assoc : (a b c : Bool) → (a && b) && c ≡ a && (b && c)
and_assoc true b c = refl
and_assoc false b c = refl

decides_same : {P : Type 0} {b c : Bool} → b ≡ c → Decides c P → Decides b P
decides_same {P} e h = subst (λ d. Decides d P) (sym e) h

-- the same for three and four parts
pub triples_tell : {A B C : Type 0} (f : A → Meaning) (a : A → A → Bool) (g : B → Meaning)
    (b : B → B → Bool) (h : C → Meaning) (c : C → C → Bool) → EqAgrees a f → EqAgrees b g → EqAgrees c h
    → EqAgrees (λ x y. (a x.0 y.0 && b x.1 y.1) && c x.2 y.2) (λ (x : A × B × C). paired
    (f x.0, paired (g x.1, h x.2)))
triples_tell f a g b h c t u v x y =
    decides_same (and_assoc (a x.0 y.0) (b x.1 y.1) (c x.2 y.2))
    (pairs_tell f a (λ z. paired (pair_map g h z)) (λ z w. b z.0 w.0 && c z.1 w.1) t
    (pairs_tell g b h c u v) (x.0, (x.1, x.2)) (y.0, (y.1, y.2)))

pub quadruples_tell : {A B C D : Type 0} (f : A → Meaning) (a : A → A → Bool) (g : B → Meaning)
    (b : B → B → Bool) (h : C → Meaning) (c : C → C → Bool) (k : D → Meaning) (d : D → D → Bool)
    → EqAgrees a f → EqAgrees b g → EqAgrees c h → EqAgrees d k
    → EqAgrees (λ x y. ((a x.0 y.0 && b x.1 y.1) && c x.2 y.2) && d x.3 y.3)
    (λ (x : A × B × C × D). paired (f x.0, paired (g x.1, paired (h x.2, k x.3))))
quadruples_tell f a g b h c k d t u v w x y =
    let both_ends = a x.0 y.0 && b x.1 y.1 in
    decides_same (and_assoc both_ends (c x.2 y.2) (d x.3 y.3)
    ∙ and_assoc (a x.0 y.0) (b x.1 y.1) (c x.2 y.2 && d x.3 y.3))
    (pairs_tell f a (λ z. paired (pair_map g (λ p. paired (pair_map h k p)) z))
    (λ z z'. b z.0 z'.0 && (c z.1.0 z'.1.0 && d z.1.1 z'.1.1)) t
    (pairs_tell g b (λ p. paired (pair_map h k p)) (λ p p'. c p.0 p'.0 && d p.1 p'.1) u
    (pairs_tell h c k d v w))
    (x.0, (x.1, (x.2, x.3))) (y.0, (y.1, (y.2, y.3))))
