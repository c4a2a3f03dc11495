-- What is proved of Order.
use Rattle.std.specs.Prelude.{◌≡◌, ℕ, Bool, true, refl, List, [], ◌++◌, length, ℤ, pos, negsuc}
use Rattle.std.specs.Prelude.{false, ◌∷◌, map, Option, Some, None}
use Rattle.std.specs.Bool.{Decides}
use Rattle.std.specs.Ordering.{eq_by_cmp, is_eq, nat_cmp, int_cmp, bool_cmp, on, then_cmp}
use Rattle.std.specs.Ordering.{ordering_then}
use Rattle.std.specs.Cmp.{IsTotalOrder, Equal-is, tied_itself, nat_cmp_total, int_cmp_total}
use Rattle.std.specs.Cmp.{on_total, then_total}
use Rattle.std.specs.Cmp.Lexicographic.{on_texts, slice_cmp, lists_total, nat_list_cmp_total}
use Rattle.std.specs.Cmp.Lexicographic.{options_total}
use Rattle.std.specs.FinMap.{IsAntisymmetric, nat_cmp-IsAntisymmetric, slice_cmp-IsAntisymmetric}
use Rattle.std.specs.FinMap.{int_cmp-IsAntisymmetric}
use Rattle.std.proofs.Common.{ap, sym, ◌∙◌, subst, append_assoc, take}
use Rattle.std.proofs.lemmas.List.{append_cancel_left, take_at}
use Rattle.std.specs.declared.cmp.Ordering.{Ordering}
use Rattle.std.specs.declared.cmp.Ordering.TheVariants.{Less, Equal, Greater}
use Rattle.std.specs.Option.{option_map, option_cmp}
use Rattle.nano_meaning.specs.Meaning.{Meaning, number, text, nothing, both, whole, truth, optional}
use Rattle.nano_meaning.specs.Meaning.{listed, paired, pair_map}
use Rattle.nano_meaning.specs.Order.{sign, size, code, meaning_cmp, MeaningOrder, Follows}
use Rattle.nano_meaning.specs.Order.{by_meaning, number_of, whole_of, text_of, item_of, parts_of}
use Rattle.nano_meaning.specs.Order.{items_of, parts_cmp}
use Rattle.nano_meaning.specs.Tables.{IsOrderOf}

sign_and_size : (y z : ℤ) → sign y ≡ sign z → size y ≡ size z → y ≡ z
unfolding sign size
sign_and_size (pos m) (pos n) s e = ap pos e
sign_and_size (pos m) (negsuc n) s e = absurd (cc)
sign_and_size (negsuc m) (pos n) s e = absurd (cc)
sign_and_size (negsuc m) (negsuc n) s e = ap negsuc e

-- texts of one length that are prefixes of the same list are the same
text_prefix : (xs ys m n : List ℕ) → length xs ≡ length ys → xs ++ m ≡ ys ++ n → (xs ≡ ys) × (m ≡ n)
text_prefix xs ys m n long e =
    let one : xs ≡ ys = sym (take_at xs m (length xs) refl)
    ∙ (ap (take (length xs)) e ∙ take_at ys n (length xs) (sym long)) in
    (one, append_cancel_left ys m n (subst (λ l. l ++ m ≡ ys ++ n) one e))

-- where two lists begin with codes, the meanings are the same, and so is what comes after the
-- codes
code_prefix : (a b : Meaning) (m n : List ℕ) → code a ++ m ≡ code b ++ n → (a ≡ b) × (m ≡ n)
unfolding code
code_prefix (number y) (number z) m n e =
    let signs : sign y ≡ sign z = cc in
    let sizes : size y ≡ size z = cc in
    (ap number (sign_and_size y z signs sizes), cc)
code_prefix (text xs) (text ys) m n e =
    let long : length xs ≡ length ys = cc in
    let same : xs ++ m ≡ ys ++ n = cc in
    let prefixes = text_prefix xs ys m n long same in
    (ap text prefixes.0, prefixes.1)
code_prefix nothing nothing m n e = (refl, cc)
code_prefix (both a b) (both c d) m n e =
    let tails : (code a ++ code b) ++ m ≡ (code c ++ code d) ++ n = cc in
    let one =
    code_prefix a c (code b ++ m) (code d ++ n) (sym (append_assoc (code a) (code b) m)
    ∙ (tails ∙ append_assoc (code c) (code d) n)) in
    let two = code_prefix b d m n one.1 in
    (λ i. both (one.0 i) (two.0 i), two.1)
code_prefix a b m n e = absurd (cc)

code_injective : (a b : Meaning) → code a ≡ code b → a ≡ b
code_injective a b e = (code_prefix a b [] [] (ap (λ l. l ++ []) e)).0

pub meaning_cmp-total : IsTotalOrder meaning_cmp
unfolding meaning_cmp
meaning_cmp-total = on_texts code

-- only the same meanings compare equal
pub meaning_cmp-antisymmetric : IsAntisymmetric meaning_cmp
unfolding meaning_cmp
meaning_cmp-antisymmetric x y e =
    code_injective x y (slice_cmp-IsAntisymmetric nat_cmp-IsAntisymmetric (code x) (code y) e)

-- whether two meanings are the same
abbrev pub same_meaning : Meaning → Meaning → Bool
same_meaning = eq_by_cmp meaning_cmp

pub same_meaning-decides : (x y : Meaning) → Decides (same_meaning x y) (x ≡ y)
same_meaning-decides x y = (
  λ e. meaning_cmp-antisymmetric x y ((Equal-is (meaning_cmp x y)).0 e),
  λ e. subst (λ z. same_meaning x z ≡ true) e (ap is_eq (tied_itself meaning_cmp-total x)),
)

-- ==== orders of meanings

pub by_meaning-orders : {A : Type 0} (means : A → Meaning) (o : MeaningOrder)
    → IsOrderOf means (by_meaning means o)
by_meaning-orders means o = record {
  total = on_total means o.total;
  decides = λ x y. (
    λ e. o.same (means x) (means y) ((Equal-is (o.cmp (means x) (means y))).0 e),
    λ e. subst (λ m. is_eq (o.cmp (means x) m) ≡ true) e (ap is_eq (tied_itself o.total (means x))),
  );
}

-- the order of a type is that of what its canonical encoding says that its values mean
pub followed : {A : Type 0} (R : A → A → Ordering) (means written : A → Meaning) (o : MeaningOrder)
    → Follows R means o → written ≡ means → by_meaning written o ≡ R
followed R means written o follows is = ap (λ f. by_meaning f o) is ∙ (λ i x y. sym (follows x y) i)

-- ---- an order of a part of the meanings, and the others after it

pub second_equal : (r s : Ordering) → ordering_then r s ≡ Equal → s ≡ Equal
second_equal Less s e = absurd (cc)
second_equal Equal s e = e
second_equal Greater s e = absurd (cc)

first_decides : (r s : Ordering) → (r ≡ Equal → s ≡ Equal) → ordering_then r s ≡ r
first_decides Less s f = refl
first_decides Equal s f = f refl
first_decides Greater s f = refl

-- by what f sees of them
abbrev pub order_by : {X : Type 0} (f : Meaning → X) (R : X → X → Ordering) → IsTotalOrder R
    → MeaningOrder
order_by f R o = record {
  cmp = then_cmp (on f R) meaning_cmp;
  total = then_total (on_total f o) meaning_cmp-total;
  same = λ a b e. meaning_cmp-antisymmetric a b (second_equal (R (f a) (f b)) (meaning_cmp a b) e);
}

-- where f sees all there is of two meanings, it alone decides
pub order_by-is : {X : Type 0} (f : Meaning → X) (R : X → X → Ordering) (o : IsTotalOrder R)
    (a b : Meaning) → (R (f a) (f b) ≡ Equal → a ≡ b) → R (f a) (f b) ≡ (order_by f R o).cmp a b
order_by-is f R o a b whole =
    sym (first_decides (R (f a) (f b)) (meaning_cmp a b) (λ e. subst (λ c. meaning_cmp a c ≡ Equal)
    (whole e) (tied_itself meaning_cmp-total a)))

-- that of the tables
abbrev pub meanings : MeaningOrder
meanings = record { cmp = meaning_cmp; total = meaning_cmp-total; same = meaning_cmp-antisymmetric }

-- ---- the orders of the types

abbrev pub numbers : MeaningOrder
numbers = order_by number_of int_cmp int_cmp_total

abbrev pub wholes : MeaningOrder
wholes = order_by whole_of nat_cmp nat_cmp_total

abbrev pub texts : MeaningOrder
texts = order_by text_of (slice_cmp nat_cmp) nat_list_cmp_total

abbrev pub options : MeaningOrder → MeaningOrder
options o = order_by item_of (option_cmp o.cmp) (options_total o.total)

pub parts_total : (o p : MeaningOrder) → IsTotalOrder (parts_cmp o p)
parts_total o p = then_total (on_total (λ x. x.0) o.total) (on_total (λ x. x.1) p.total)

abbrev pub pairs : MeaningOrder → MeaningOrder → MeaningOrder
pairs o p = order_by parts_of (parts_cmp o p) (parts_total o p)

abbrev pub lists : MeaningOrder → MeaningOrder
lists o = order_by items_of (slice_cmp o.cmp) (lists_total o.total)

-- ---- the types follow them

pub signed_follow : Follows int_cmp number numbers
signed_follow x y =
    order_by-is number_of int_cmp int_cmp_total (number x) (number y)
    (λ e. ap number (int_cmp-IsAntisymmetric x y e))

pub unsigned_follow : Follows nat_cmp whole wholes
unsigned_follow x y =
    order_by-is whole_of nat_cmp nat_cmp_total (whole x) (whole y)
    (λ e. ap whole (nat_cmp-IsAntisymmetric x y e))

pub truths_follow : Follows bool_cmp truth wholes
truths_follow false false = sym (tied_itself wholes.total (whole 0))
truths_follow false true = refl
truths_follow true false = refl
truths_follow true true = sym (tied_itself wholes.total (whole 1))

pub texts_follow : {A : Type 0} (bytes : A → List ℕ)
    → Follows (λ x y. slice_cmp nat_cmp (bytes x) (bytes y)) (λ x. text (bytes x)) texts
texts_follow bytes x y =
    order_by-is text_of (slice_cmp nat_cmp) nat_list_cmp_total (text (bytes x)) (text (bytes y))
    (λ e. ap text (slice_cmp-IsAntisymmetric nat_cmp-IsAntisymmetric (bytes x) (bytes y) e))

first_equal : (r s : Ordering) → ordering_then r s ≡ Equal → r ≡ Equal
first_equal Less s e = e
first_equal Equal s e = refl
first_equal Greater s e = e

pub parts_same : (o p : MeaningOrder) → IsAntisymmetric (parts_cmp o p)
parts_same o p x y e =
    λ i. (
      o.same x.0 y.0 (first_equal (o.cmp x.0 y.0) (p.cmp x.1 y.1) e) i,
      p.same x.1 y.1
          (second_equal (o.cmp x.0 y.0) (p.cmp x.1 y.1) e) i,
    )

-- a pair of meanings and a third, as they are compared
pub paired_follow : (o p : MeaningOrder) (x y : Meaning × Meaning)
    → parts_cmp o p x y ≡ (pairs o p).cmp (paired x) (paired y)
paired_follow o p x y =
    order_by-is parts_of (parts_cmp o p) (parts_total o p) (paired x) (paired y)
    (λ e. ap paired (parts_same o p x y e))

pub pairs_follow : {A B : Type 0} (R : A → A → Ordering) (f : A → Meaning) (o : MeaningOrder)
    (S : B → B → Ordering) (g : B → Meaning) (p : MeaningOrder) → Follows R f o → Follows S g p
    → Follows (λ x y. ordering_then (R x.0 y.0) (S x.1 y.1)) (λ x. paired (pair_map f g x))
    (pairs o p)
pairs_follow R f o S g p h k x y =
    (λ i. ordering_then (h x.0 y.0 i) (k x.1 y.1 i))
    ∙ paired_follow o p (f x.0, g x.1) (f y.0, g y.1)

then_assoc : (r s t : Ordering) → ordering_then (ordering_then r s) t ≡ ordering_then r
    (ordering_then s t)
then_assoc Less s t = refl
then_assoc Equal s t = refl
then_assoc Greater s t = refl

pub units_follow : {A : Type 0} → Follows {A = A} (λ _ _. Equal) (λ _. nothing) meanings
units_follow x y = sym (tied_itself meaning_cmp-total nothing)

pub triples_follow : {A B C : Type 0} (R : A → A → Ordering) (f : A → Meaning) (o : MeaningOrder)
    (S : B → B → Ordering) (g : B → Meaning) (p : MeaningOrder) (U : C → C → Ordering)
    (h : C → Meaning) (q : MeaningOrder) → Follows R f o → Follows S g p → Follows U h q
    → Follows (λ x y. ordering_then (ordering_then (R x.0 y.0) (S x.1 y.1)) (U x.2 y.2))
    (λ (x : A × B × C). paired (f x.0, paired (g x.1, h x.2))) (pairs o (pairs p q))
triples_follow R f o S g p U h q a b c x y =
    then_assoc (R x.0 y.0) (S x.1 y.1) (U x.2 y.2)
    ∙ pairs_follow R f o (λ v w. ordering_then (S v.0 w.0) (U v.1 w.1))
    (λ v. paired (pair_map g h v)) (pairs p q) a (pairs_follow S g p U h q b c)
    (x.0, (x.1, x.2)) (y.0, (y.1, y.2))

module _ {A : Type 0} (R : A → A → Ordering) (f : A → Meaning) (o : MeaningOrder)
    (h : Follows R f o) where
  options_map : (x y : Option A) → option_cmp R x y ≡ option_cmp o.cmp (option_map f x)
      (option_map f y)
  options_map None None = refl
  options_map None (Some y) = refl
  options_map (Some x) None = refl
  options_map (Some x) (Some y) = h x y

  seen_item : (x : Option Meaning) → item_of (optional x) ≡ x
  seen_item None = refl
  seen_item (Some m) = refl

  option_same : IsAntisymmetric (option_cmp o.cmp)
  option_same None None e = refl
  option_same None (Some y) e = absurd (cc)
  option_same (Some x) None e = absurd (cc)
  option_same (Some x) (Some y) e = ap Some (o.same x y e)

  optional_follow : (x y : Option Meaning)
      → option_cmp o.cmp x y ≡ (options o).cmp (optional x) (optional y)
  optional_follow x y =
      let seen : option_cmp o.cmp x y ≡ option_cmp o.cmp (item_of (optional x))
      (item_of (optional y)) =
      λ i. option_cmp o.cmp (sym (seen_item x) i) (sym (seen_item y) i) in
      seen ∙ order_by-is item_of (option_cmp o.cmp) (options_total o.total) (optional x)
      (optional y) (λ e. ap optional (option_same x y (seen ∙ e)))

  pub options_follow : Follows (option_cmp R) (λ x. optional (option_map f x)) (options o)
  options_follow x y = options_map x y ∙ optional_follow (option_map f x) (option_map f y)

  pub lists_map : (xs ys : List A) → slice_cmp R xs ys ≡ slice_cmp o.cmp (map f xs) (map f ys)
  lists_map [] [] = refl
  lists_map [] (y ∷ ys) = refl
  lists_map (x ∷ xs) [] = refl
  lists_map (x ∷ xs) (y ∷ ys) = λ i. ordering_then (h x y i) (lists_map xs ys i)

  pub seen_items : (ms : List Meaning) → items_of (listed ms) ≡ ms
  seen_items [] = refl
  seen_items (m ∷ ms) = ap (λ l. m ∷ l) (seen_items ms)

  listed_follow : (ms ns : List Meaning) → slice_cmp o.cmp ms ns ≡ (lists o).cmp (listed ms)
      (listed ns)
  listed_follow ms ns =
      let seen : slice_cmp o.cmp ms ns ≡ slice_cmp o.cmp (items_of (listed ms))
      (items_of (listed ns)) =
      λ i. slice_cmp o.cmp (sym (seen_items ms) i) (sym (seen_items ns) i) in
      seen ∙ order_by-is items_of (slice_cmp o.cmp) (lists_total o.total) (listed ms) (listed ns)
      (λ e. ap listed (slice_cmp-IsAntisymmetric o.same ms ns (seen ∙ e)))

  pub lists_follow : Follows (slice_cmp R) (λ xs. listed (map f xs)) (lists o)
  lists_follow xs ys = lists_map xs ys ∙ listed_follow (map f xs) (map f ys)

pub quadruples_follow : {A B C D : Type 0} (R : A → A → Ordering) (f : A → Meaning)
    (o : MeaningOrder) (S : B → B → Ordering) (g : B → Meaning) (p : MeaningOrder)
    (U : C → C → Ordering) (h : C → Meaning) (q : MeaningOrder) (V : D → D → Ordering)
    (k : D → Meaning) (r : MeaningOrder) → Follows R f o → Follows S g p → Follows U h q
    → Follows V k r
    → Follows (λ x y. ordering_then (ordering_then (ordering_then (R x.0 y.0) (S x.1 y.1))
    (U x.2 y.2)) (V x.3 y.3)) (λ (x : A × B × C × D). paired
    (f x.0, paired (g x.1, paired (h x.2, k x.3)))) (pairs o (pairs p (pairs q r)))
quadruples_follow R f o S g p U h q V k r a b c d x y =
    then_assoc (ordering_then (R x.0 y.0) (S x.1 y.1)) (U x.2 y.2) (V x.3 y.3)
    ∙ (then_assoc (R x.0 y.0) (S x.1 y.1) (ordering_then (U x.2 y.2) (V x.3 y.3))
    ∙ pairs_follow R f o (λ v w. ordering_then (S v.0 w.0) (ordering_then (U v.1.0 w.1.0)
    (V v.1.1 w.1.1))) (λ v. paired (g v.0, paired (h v.1.0, k v.1.1))) (pairs p (pairs q r)) a
    (pairs_follow S g p (λ v w. ordering_then (U v.0 w.0) (V v.1 w.1))
    (λ v. paired (pair_map h k v)) (pairs q r) b (pairs_follow U h q V k r c d))
    (x.0, (x.1, (x.2, x.3))) (y.0, (y.1, (y.2, y.3))))
