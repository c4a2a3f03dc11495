-- The test of decimals decides which texts are.
use Rattle.std.proofs.Common.{◌≡◌, ◌<◌, ℕ, ◌&&◌, not, Bool, true, false, List, [], ◌∷◌, ◌++◌}
use Rattle.std.proofs.Common.{length, Option, Some, None, refl, sym, ◌∙◌, ap, subst, arith}
use Rattle.std.proofs.Common.{append-nil, true≢false}
use Rattle.std.proofs.lemmas.Bool.{and_parts, and_from}
use Rattle.nano_text.specs.Characters.{first_is}
use Rattle.nano_text.specs.Number.{Exponent, IsNumber, AreGoodParts, is_minus, number_from_parts}
use Rattle.nano_text.specs.Number.{run_text}
use Rattle.nano_text.specs.Scan.{after_sign, after_whole, after_run}
use Rattle.nano_text.specs.ScanLaws.{run_at}
use Rattle.nano_text.specs.declared.number.Number.TheVariants.{Dec}
use Rattle.nano_text.proofs.Numbers.{number_at, integer_not_decimal}
use Rattle.nano_text.proofs.Runs.{run_split, run_again}
use Rattle.nano_json_tokens.specs.Cut.{number, starts_number}
use Rattle.nano_document.specs.Decimals.{IsDecimal, is_empty, are_parts, is_decimal}
use Rattle.nano_document.specs.DecimalCodecs.{whole_number}

-- ---- what is not empty

pub some_long : (xs : List ℕ) → not (is_empty xs) ≡ true → 0 < length xs
some_long [] h = absurd (true≢false (sym h))
some_long (x ∷ xs) h = omega arith

pub long_some : (xs : List ℕ) → 0 < length xs → not (is_empty xs) ≡ true
long_some [] h = absurd (omega (arith, h))
long_some (x ∷ xs) h = refl

none_left : (xs : List ℕ) → is_empty xs ≡ true → xs ≡ []
none_left [] h = refl
none_left (x ∷ xs) h = absurd (true≢false (sym h))

-- ---- parts

parts_good : (minus : Bool) (w : List ℕ) (f : Option (List ℕ)) (e : Option Exponent)
    → are_parts w f e ≡ true
    → AreGoodParts minus w f e × (Dec ≡ number_from_parts minus w f e)
parts_good minus w None None h = absurd (true≢false (sym h))
parts_good minus w (Some ds) None h = (some_long (w ++ ds) h, refl)
parts_good minus w None (Some e) h =
    let both = and_parts _ _ h in
    ((some_long (w ++ []) both.0, some_long e.digits both.1), refl)
parts_good minus w (Some ds) (Some e) h =
    let both = and_parts _ _ h in
    ((some_long (w ++ ds) both.0, some_long e.digits both.1), refl)

good_parts : (minus : Bool) (w : List ℕ) (f : Option (List ℕ)) (e : Option Exponent)
    → AreGoodParts minus w f e
    → Dec ≡ number_from_parts minus w f e → are_parts w f e ≡ true
good_parts minus w None None g is = absurd (integer_not_decimal minus w Dec is refl)
good_parts minus w (Some ds) None g is = long_some (w ++ ds) g
good_parts minus w None (Some e) g is =
    and_from _ _ (long_some (w ++ []) g.0) (long_some e.digits g.1)
good_parts minus w (Some ds) (Some e) g is =
    and_from _ _ (long_some (w ++ ds) g.0) (long_some e.digits g.1)

-- ---- the test, by the run that a text begins with

by_run : (t : List ℕ) → is_decimal t
    ≡ first_is starts_number t && (are_parts (run_at t).whole (run_at t).fraction (run_at
    t).exponent && is_empty (after_run t))
unfolding run_at after_run after_whole after_sign
by_run t = refl

pub decimal_is : (t : List ℕ) → is_decimal t ≡ true → IsDecimal t
decimal_is t h =
    let r = run_at t in
    let test = and_parts _ _ (sym (by_run t) ∙ h) in
    let parts = and_parts _ _ test.1 in
    let good = parts_good (is_minus r.sign) r.whole r.fraction r.exponent parts.0 in
    let none = none_left (after_run t) parts.1 in
    let all : run_text r ≡ t = sym (append-nil (run_text r))
    ∙ (ap (λ l. run_text r ++ l) (sym none) ∙ run_split t) in
    number test.0 (subst (λ run. IsNumber t Dec run []) all (number_at t [] Dec (sym none) good.0
    good.1))

pub decimal_tests : (t : List ℕ) → IsDecimal t → is_decimal t ≡ true
decimal_tests t h =
    let whole = whole_number t h in
    let of = whole.1 in
    let again = run_again of.parts [] of.is_run of.good of.ends in
    let all : t ≡ run_text of.parts ++ [] = of.run_is ∙ sym (append-nil (run_text of.parts)) in
    let same : run_at t ≡ of.parts = ap run_at all ∙ again.0 in
    let none : after_run t ≡ [] = ap after_run all ∙ again.1 in
    let parts = good_parts (is_minus of.parts.sign) of.parts.whole of.parts.fraction
    of.parts.exponent of.good of.number_is in
    by_run t ∙ and_from _ _ whole.0 (and_from _ _
    (subst (λ r. are_parts r.whole r.fraction r.exponent ≡ true) (sym same) parts)
    (ap is_empty none))

pub no_decimal : (t : List ℕ) → is_decimal t ≡ false → IsDecimal t → ⊥
no_decimal t h is = true≢false (sym (decimal_tests t is) ∙ h)

pub other_text : (t : List ℕ) → (IsDecimal t → ⊥) → is_decimal t ≡ false
other_text t h = elim (is_decimal t) as (λ b. is_decimal t ≡ b → b ≡ false) [
  | true ↦ λ e. absurd (h (decimal_is t e))
  | false ↦ λ e. refl
] refl
