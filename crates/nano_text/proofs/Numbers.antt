-- From the parts that were taken to the number that stands there, and back.
use Rattle.std.proofs.Common.{◌≡◌, ℕ, ◌+◌, ◌<◌, ◌||◌, inl, inr, List, [], ◌∷◌, ◌++◌, Bool, true}
use Rattle.std.proofs.Common.{false, cond, nat_lt, refl, ap, sym, ◌∙◌, subst, Option, Some, None}
use Rattle.std.proofs.Common.{length, length-append, arith, option_map}
use Rattle.std.proofs.lemmas.Bool.{ltb-false, ltb-true, and_parts, and_cases}
use Rattle.std.proofs.lemmas.Bool.Decides.{nat_tests}
use Rattle.nano_text.specs.declared.number.Number.{Number}
use Rattle.nano_text.specs.declared.number.Number.TheVariants.{Dec}
use Rattle.nano_text.specs.Number.{Exponent, is_minus, sign_text, fraction_text, exponent_text}
use Rattle.nano_text.specs.Number.{run_text, IsGood, AreGoodParts, number_of, number_from_parts}
use Rattle.nano_text.specs.Number.{IsNumber}
use Rattle.nano_text.specs.ScanLaws.{run_at}
use Rattle.nano_text.specs.Scan.{after_run, exponent_len, minus_capacity, fraction_capacity}
use Rattle.nano_text.specs.Scan.{exponent_capacity, decimal_len}
use Rattle.nano_text.proofs.Runs.{run_split, run_is_run, run_ends, run_again}

-- ---- an integer

pub none_mapped : {A B : Type 0} (f : A → B) (o : Option A) → option_map f o ≡ None → o ≡ None
none_mapped f None h = refl
none_mapped f (Some x) h = cc h

-- the run that begins the text is the number, if it is good
pub number_at : (text rest : List ℕ) (n : Number) → rest ≡ after_run text → IsGood (run_at text) → n ≡ number_of (run_at text) → IsNumber text n (run_text (run_at text)) rest
number_at text rest n r g e = record {
  parts = run_at text;
  is_run = run_is_run text;
  good = g;
  number_is = e;
  run_is = refl;
  split = sym (ap (λ (l : List ℕ). run_text (run_at text) ++ l) r ∙ run_split text);
  ends = rw r (run_ends text);
}

-- a number that stands there is that run, and good
pub number_good : (text rest run : List ℕ) (n : Number) → IsNumber text n run rest → IsGood (run_at text)
number_good text rest run n h =
    let all : text ≡ run_text h.parts ++ rest = h.split ∙ ap (λ (l : List ℕ). l ++ rest) h.run_is in
    subst IsGood (sym (ap run_at all ∙ (run_again h.parts rest h.is_run h.good h.ends).0)) h.good

pub integer_good : (text : List ℕ) → (run_at text).fraction ≡ None → (run_at text).exponent ≡ None → IsGood (run_at text) → AreGoodParts (is_minus (run_at text).sign) (run_at text).whole None None
integer_good text p q g =
    let r = run_at text in
    subst (λ (e : Option Exponent). AreGoodParts (is_minus r.sign) r.whole None e) q (subst (λ (f : Option (List ℕ)). AreGoodParts (is_minus r.sign) r.whole f r.exponent) p g)

pub integer_found : (text rest : List ℕ) (n : Number) (minus : Bool) → rest ≡ after_run text → (run_at text).fraction ≡ None → (run_at text).exponent ≡ None → minus ≡ is_minus (run_at text).sign
    → AreGoodParts minus (run_at text).whole None None × (n ≡ number_from_parts minus (run_at text).whole None None) → IsNumber text n (run_text (run_at text)) rest
integer_found text rest n minus t p q m g =
    let r = run_at text in
    let g1 = subst (λ (b : Bool). AreGoodParts b r.whole None None × (n ≡ number_from_parts b r.whole None None)) m g in
    let g2 = subst (λ (f : Option (List ℕ)). AreGoodParts (is_minus r.sign) r.whole f None × (n ≡ number_from_parts (is_minus r.sign) r.whole f None)) (sym p) g1 in
    let g3 = subst (λ (e : Option Exponent). AreGoodParts (is_minus r.sign) r.whole r.fraction e × (n ≡ number_from_parts (is_minus r.sign) r.whole r.fraction e)) (sym q) g2 in
    number_at text rest n t g3.0 g3.1

-- ---- a decimal

or_some : (a b : ℕ) → nat_lt 0 a || nat_lt 0 b ≡ true → 0 < a + b
or_some a b h = grind (arith, nat_tests)

or_none : (a b : ℕ) → nat_lt 0 a || nat_lt 0 b ≡ false → 0 < a + b → ⊥
or_none a b h g = grind (arith, nat_tests)

chosen : (b : Bool) (n m : ℕ) → cond b (Some n) None ≡ Some m → (b ≡ true) × (n ≡ m)
chosen true n m h = let e : n ≡ m = cc h in (refl, e)
chosen false n m h = cc h

not_chosen : (b : Bool) (n : ℕ) → cond b (Some n) None ≡ None → b ≡ false
not_chosen true n h = cc h
not_chosen false n h = refl

minus_length : (minus : Bool) (ds : List ℕ) → length (cond minus (45 ∷ []) [] ++ ds) ≡ minus_capacity minus + length ds
minus_length true ds = omega arith
minus_length false ds = omega arith

-- how many characters a fraction and an exponent take
pub decimal_length : (f : Option (List ℕ)) (e : Option Exponent) → length (fraction_text f ++ exponent_text e) ≡ fraction_capacity (option_map length f) + exponent_capacity (option_map exponent_len e)
decimal_length None None = refl
decimal_length (Some ds) None = omega (arith, length-append ds [])
decimal_length None (Some e) = omega (arith, minus_length e.minus e.digits)
decimal_length (Some ds) (Some e) = omega (arith, length-append ds (exponent_text (Some e)), minus_length e.minus e.digits)

-- the parts of a good decimal
pub decimal_yes : (minus : Bool) (w : List ℕ) (f : Option (List ℕ)) (e : Option Exponent) (n : ℕ) → decimal_len (length w) (option_map length f) (option_map exponent_len e) ≡ Some n
    → AreGoodParts minus w f e × (Dec ≡ number_from_parts minus w f e) × (n + 1 ≡ fraction_capacity (option_map length f) + exponent_capacity (option_map exponent_len e))
decimal_yes minus w None None n h = cc h
decimal_yes minus w (Some ds) None n h =
    let is = chosen _ _ n h in
    (omega (arith, or_some (length w) (length ds) is.0, length-append w ds), refl, omega (arith, is.1))
decimal_yes minus w None (Some e) n h =
    let is = chosen _ _ n h in
    let some = and_parts _ _ is.0 in
    ((omega (arith, ltb-true 0 (length w) some.0, length-append w []), ltb-true 0 (length e.digits) some.1), refl, omega (arith, is.1))
decimal_yes minus w (Some ds) (Some e) n h =
    let is = chosen _ _ n h in
    let some = and_parts _ _ is.0 in
    ((omega (arith, or_some (length w) (length ds) some.0, length-append w ds), ltb-true 0 (length e.digits) some.1), refl, omega (arith, is.1))

-- and of one that isn't
pub decimal_not : (minus : Bool) (w : List ℕ) (f : Option (List ℕ)) (e : Option Exponent) → ((f ≡ None) × (e ≡ None) → ⊥) → decimal_len (length w) (option_map length f) (option_map exponent_len e) ≡ None → AreGoodParts minus w f e → ⊥
decimal_not minus w None None some h g = some (refl, refl)
decimal_not minus w (Some ds) None some h g = or_none (length w) (length ds) (not_chosen _ _ h) (omega (arith, g, length-append w ds))
decimal_not minus w None (Some e) some h g = elim (and_cases _ _ (not_chosen _ _ h)) [
  | inl x ↦ omega (arith, ltb-false 0 (length w) x, g.0, length-append w [])
  | inr x ↦ omega (arith, ltb-false 0 (length e.digits) x, g.1)
]
decimal_not minus w (Some ds) (Some e) some h g = elim (and_cases _ _ (not_chosen _ _ h)) [
  | inl x ↦ or_none (length w) (length ds) x (omega (arith, g.0, length-append w ds))
  | inr x ↦ omega (arith, ltb-false 0 (length e.digits) x, g.1)
]

-- a text begins with one number lexeme, at most
pub IsNumber-unique : (text : List ℕ) (n m : Number) (run ran rest left : List ℕ) → IsNumber text n run rest → IsNumber text m ran left → (n ≡ m) × (run ≡ ran) × (rest ≡ left)
IsNumber-unique text n m run ran rest left h k =
    let all : text ≡ run_text h.parts ++ rest = h.split ∙ ap (λ (l : List ℕ). l ++ rest) h.run_is in
    let also : text ≡ run_text k.parts ++ left = k.split ∙ ap (λ (l : List ℕ). l ++ left) k.run_is in
    let a = run_again h.parts rest h.is_run h.good h.ends in
    let b = run_again k.parts left k.is_run k.good k.ends in
    let same : h.parts ≡ k.parts = sym a.0 ∙ (ap run_at (sym all ∙ also) ∙ b.0) in (
      h.number_is ∙ (ap number_of same ∙ sym k.number_is),
      h.run_is ∙ (ap run_text same ∙ sym k.run_is),
      sym a.1 ∙ (ap after_run (sym all ∙ also) ∙ b.1),
    )

good_length : (s : Option ℕ) (minus : Bool) (w : List ℕ) (f : Option (List ℕ)) (e : Option Exponent) → AreGoodParts minus w f e → 0 < length (sign_text s ++ (w ++ (fraction_text f ++ exponent_text e)))
good_length s minus w None None g = omega (arith, g.0, length-append (sign_text s) (w ++ []), length-append w [])
good_length s minus w (Some ds) None g = omega (arith, length-append (sign_text s) (w ++ (46 ∷ (ds ++ []))), length-append w (46 ∷ (ds ++ [])))
good_length s minus w None (Some e) g = omega (arith, length-append (sign_text s) (w ++ exponent_text (Some e)), length-append w (exponent_text (Some e)))
good_length s minus w (Some ds) (Some e) g = omega (arith, length-append (sign_text s) (w ++ (46 ∷ (ds ++ exponent_text (Some e)))), length-append w (46 ∷ (ds ++ exponent_text (Some e))))

-- a number has a character
pub IsNumber-shorter : (text run rest : List ℕ) (n : Number) → IsNumber text n run rest → length rest < length text
IsNumber-shorter text run rest n h =
    let r = h.parts in
    omega (arith, good_length r.sign (is_minus r.sign) r.whole r.fraction r.exponent h.good, ap length h.split, ap length h.run_is, length-append run rest)

-- an integer is no decimal
pub integer_not_decimal : (minus : Bool) (ds : List ℕ) (n : Number) → n ≡ number_from_parts minus ds None None → n ≡ Dec → ⊥
integer_not_decimal true ds n is e = cc (is, e)
integer_not_decimal false ds n is e = cc (is, e)
