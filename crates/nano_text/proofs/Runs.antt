-- The run that a text begins with is the only good one that it can begin with.
use Rattle.std.proofs.Common.{◌≡◌, ℕ, ◌<◌, ◌≤◌, ◌||◌, inl, inr, List, [], ◌∷◌, ◌++◌, Bool, true}
use Rattle.std.proofs.Common.{false, cond, refl, sym, ap, ◌∙◌, subst, Option, Some, None, IfSome}
use Rattle.std.proofs.Common.{append_assoc, length, arith, eqb-true, ne_eqb, leb-true}
use Rattle.std.specs.Char.{is_ascii_digit}
use Rattle.std.specs.Str.{all_ascii_digits}
use Rattle.std.proofs.lemmas.Bool.{and_parts, or_cases, or_parts}
use Rattle.nano_text.specs.Characters.{first_is, prefix, following}
use Rattle.nano_text.specs.Number.{Run, Exponent, is_sign, is_point, is_letter_e, is_minus}
use Rattle.nano_text.specs.Number.{sign_text, fraction_text, exponent_text, run_text, IsRun, IsGood}
use Rattle.nano_text.specs.Number.{AreGoodParts, continues}
use Rattle.nano_text.specs.Scan.{first_if, after_one, is_minus_char, fraction_at, after_fraction}
use Rattle.nano_text.specs.Scan.{exponent_at, after_exponent, after_sign, after_whole, after_run}
use Rattle.nano_text.specs.ScanLaws.{run_at}
use Rattle.nano_text.proofs.Prefixes.{prefix_stop, after_stop}
use Rattle.nano_text.proofs.InLine.{first_stop, one_stop, fraction_stop, after_fraction_stop}
use Rattle.nano_text.proofs.InLine.{exponent_stop, after_exponent_stop, or_false}

-- ---- what is taken and what is left are the text

pub first_split : (p : ℕ → Bool) (t : List ℕ) → sign_text (first_if p t) ++ after_one p t ≡ t
first_split p [] = refl
first_split p (c ∷ cs) = elim (p c) as (λ (b : Bool). sign_text (cond b (Some c) None) ++ cond b cs (c ∷ cs) ≡ c ∷ cs) [ true ↦ refl | false ↦ refl ]

pub digits_split : (t : List ℕ) → (prefix is_ascii_digit t ++ following is_ascii_digit t ≡ t) × (all_ascii_digits (prefix is_ascii_digit t) ≡ true) × (first_is is_ascii_digit (following is_ascii_digit t) ≡ false)
digits_split [] = (refl, refl, refl)
digits_split (c ∷ cs) =
    let r = digits_split cs in
    elim (is_ascii_digit c) as (λ (b : Bool). is_ascii_digit c ≡ b → (cond b (c ∷ prefix is_ascii_digit cs) [] ++ cond b (following is_ascii_digit cs) (c ∷ cs) ≡ c ∷ cs) × (all_ascii_digits (cond b (c ∷ prefix is_ascii_digit cs) []) ≡ true) × (first_is is_ascii_digit (cond b (following is_ascii_digit cs) (c ∷ cs)) ≡ false)) [
      | true ↦ λ e. (ap (λ (l : List ℕ). c ∷ l) r.0, rw e r.1, r.2)
      | false ↦ λ e. (refl, refl, e)
    ] refl

pub fraction_split : (t : List ℕ) → fraction_text (fraction_at t) ++ after_fraction t ≡ t
fraction_split [] = refl
fraction_split (c ∷ cs) = elim (is_point c) as (λ (b : Bool). is_point c ≡ b → fraction_text (cond b (Some (prefix is_ascii_digit cs)) None) ++ cond b (following is_ascii_digit cs) (c ∷ cs) ≡ c ∷ cs) [
  | true ↦ λ e. rw (eqb-true c 46 e) (ap (λ (l : List ℕ). 46 ∷ l) (digits_split cs).0)
  | false ↦ λ e. refl
] refl

minus_split : (t : List ℕ) → cond (first_is is_minus_char t) (45 ∷ []) [] ++ after_one is_minus_char t ≡ t
minus_split [] = refl
minus_split (c ∷ cs) = elim (is_minus_char c) as (λ (b : Bool). is_minus_char c ≡ b → cond b (45 ∷ []) [] ++ cond b cs (c ∷ cs) ≡ c ∷ cs) [
  | true ↦ λ e. rw (eqb-true c 45 e) refl
  | false ↦ λ e. refl
] refl

pub exponent_split : (t : List ℕ) → exponent_text (exponent_at t) ++ after_exponent t ≡ t
exponent_split [] = refl
exponent_split (c ∷ cs) =
    let d = digits_split (after_one is_minus_char cs) in
    let m = minus_split cs in
    elim (is_letter_e c) as (λ (b : Bool). exponent_text (cond b (Some (record { letter = c; minus = first_is is_minus_char cs; digits = prefix is_ascii_digit (after_one is_minus_char cs) })) None) ++ cond b (following is_ascii_digit (after_one is_minus_char cs)) (c ∷ cs) ≡ c ∷ cs) [
      | true ↦ ap (λ (l : List ℕ). c ∷ l) (append_assoc (cond (first_is is_minus_char cs) (45 ∷ []) []) (prefix is_ascii_digit (after_one is_minus_char cs)) (following is_ascii_digit (after_one is_minus_char cs)) ∙ (ap (λ (l : List ℕ). cond (first_is is_minus_char cs) (45 ∷ []) [] ++ l) d.0 ∙ m))
      | false ↦ refl
    ]

pub run_split : (t : List ℕ) → run_text (run_at t) ++ after_run t ≡ t
unfolding run_at after_run after_whole after_sign
run_split t =
    let t1 = after_one is_sign t in
    let t2 = following is_ascii_digit t1 in
    let t3 = after_fraction t2 in
    simp append_assoc (rw (exponent_split t3, fraction_split t2, (digits_split t1).0) (first_split is_sign t))

-- ---- its parts are such parts

first_passes : (p : ℕ → Bool) (t : List ℕ) → IfSome (first_if p t) (λ c. p c ≡ true)
first_passes p [] = tt
first_passes p (c ∷ cs) = elim (p c) as (λ (b : Bool). p c ≡ b → IfSome (cond b (Some c) None) (λ x. p x ≡ true)) [ true ↦ λ e. e | false ↦ λ e. tt ] refl

fraction_passes : (t : List ℕ) → IfSome (fraction_at t) (λ ds. all_ascii_digits ds ≡ true)
fraction_passes [] = tt
fraction_passes (c ∷ cs) = elim (is_point c) as (λ (b : Bool). IfSome (cond b (Some (prefix is_ascii_digit cs)) None) (λ ds. all_ascii_digits ds ≡ true)) [ true ↦ (digits_split cs).1 | false ↦ tt ]

letter_passes : (t : List ℕ) → IfSome (exponent_at t) (λ e. is_letter_e e.letter ≡ true)
letter_passes [] = tt
letter_passes (c ∷ cs) = elim (is_letter_e c) as (λ (b : Bool). is_letter_e c ≡ b → IfSome {T = Exponent} (cond b (Some (record { letter = c; minus = first_is is_minus_char cs; digits = prefix is_ascii_digit (after_one is_minus_char cs) })) None) (λ e. is_letter_e e.letter ≡ true)) [ true ↦ λ e. e | false ↦ λ e. tt ] refl

digits_pass : (t : List ℕ) → IfSome (exponent_at t) (λ e. all_ascii_digits e.digits ≡ true)
digits_pass [] = tt
digits_pass (c ∷ cs) = elim (is_letter_e c) as (λ (b : Bool). IfSome {T = Exponent} (cond b (Some (record { letter = c; minus = first_is is_minus_char cs; digits = prefix is_ascii_digit (after_one is_minus_char cs) })) None) (λ e. all_ascii_digits e.digits ≡ true)) [ true ↦ (digits_split (after_one is_minus_char cs)).1 | false ↦ tt ]

pub run_is_run : (t : List ℕ) → IsRun (run_at t)
unfolding run_at after_whole after_sign
run_is_run t = record {
  sign = first_passes is_sign t;
  whole = (digits_split (after_sign t)).1;
  fraction = fraction_passes (after_whole t);
  letter = letter_passes (after_fraction (after_whole t));
  digits = digits_pass (after_fraction (after_whole t));
}

-- ---- nothing after it continues it

exponent_ends_some : (ds u : List ℕ) → first_is is_ascii_digit u ≡ false → first_is (continues (Some ds) (exponent_at u)) (after_exponent u) ≡ false
exponent_ends_some ds [] h = refl
exponent_ends_some ds (c ∷ cs) h =
    let d = digits_split (after_one is_minus_char cs) in
    elim (is_letter_e c) as (λ (b : Bool). is_letter_e c ≡ b → first_is (continues (Some ds) (cond b (Some (record { letter = c; minus = first_is is_minus_char cs; digits = prefix is_ascii_digit (after_one is_minus_char cs) })) None)) (cond b (following is_ascii_digit (after_one is_minus_char cs)) (c ∷ cs)) ≡ false) [
      | true ↦ λ e. d.2
      | false ↦ λ e. rw (h, e) refl
    ] refl

exponent_ends_none : (u : List ℕ) → first_is is_ascii_digit u ≡ false → first_is is_point u ≡ false → first_is (continues None (exponent_at u)) (after_exponent u) ≡ false
exponent_ends_none [] h k = refl
exponent_ends_none (c ∷ cs) h k =
    let d = digits_split (after_one is_minus_char cs) in
    elim (is_letter_e c) as (λ (b : Bool). is_letter_e c ≡ b → first_is (continues None (cond b (Some (record { letter = c; minus = first_is is_minus_char cs; digits = prefix is_ascii_digit (after_one is_minus_char cs) })) None)) (cond b (following is_ascii_digit (after_one is_minus_char cs)) (c ∷ cs)) ≡ false) [
      | true ↦ λ e. d.2
      | false ↦ λ e. rw (h, k, e) refl
    ] refl

fraction_ends : (u : List ℕ) → first_is is_ascii_digit u ≡ false → first_is (continues (fraction_at u) (exponent_at (after_fraction u))) (after_exponent (after_fraction u)) ≡ false
fraction_ends [] h = refl
fraction_ends (c ∷ cs) h =
    elim (is_point c) as (λ (b : Bool). is_point c ≡ b → first_is (continues (cond b (Some (prefix is_ascii_digit cs)) None) (exponent_at (cond b (following is_ascii_digit cs) (c ∷ cs)))) (after_exponent (cond b (following is_ascii_digit cs) (c ∷ cs))) ≡ false) [
      | true ↦ λ e. exponent_ends_some (prefix is_ascii_digit cs) (following is_ascii_digit cs) (digits_split cs).2
      | false ↦ λ e. exponent_ends_none (c ∷ cs) h e
    ] refl

pub run_ends : (t : List ℕ) → first_is (continues (run_at t).fraction (run_at t).exponent) (after_run t) ≡ false
unfolding run_at after_run after_whole
run_ends t = fraction_ends (following is_ascii_digit (after_sign t)) (digits_split (after_sign t)).2

-- ---- an exponent that is taken without a minus goes on with none

exponent_minus : (t : List ℕ) → IfSome (exponent_at t) (λ e. e.minus ≡ false → first_is is_minus_char (e.digits ++ after_exponent t) ≡ false)
exponent_minus [] = tt
exponent_minus (c ∷ cs) =
    let d = digits_split (after_one is_minus_char cs) in
    elim (is_letter_e c) as (λ (b : Bool). IfSome {T = Exponent} (cond b (Some (record { letter = c; minus = first_is is_minus_char cs; digits = prefix is_ascii_digit (after_one is_minus_char cs) })) None) (λ e. e.minus ≡ false → first_is is_minus_char (e.digits ++ cond b (following is_ascii_digit (after_one is_minus_char cs)) (c ∷ cs)) ≡ false)) [
      | true ↦ λ n. ap (first_is is_minus_char) (d.0 ∙ one_stop is_minus_char cs n) ∙ n
      | false ↦ tt
    ]

pub run_minus : (t : List ℕ) → IfSome (run_at t).exponent (λ e. e.minus ≡ false → first_is is_minus_char (e.digits ++ after_run t) ≡ false)
unfolding run_at after_run
run_minus t = exponent_minus (after_fraction (after_whole t))

-- ---- a good run is the one that is taken

pub digit_range : (c : ℕ) → is_ascii_digit c ≡ true → (48 ≤ c) × (c ≤ 57)
digit_range c h = let p = and_parts _ _ h in (leb-true 48 c p.0, leb-true c 57 p.1)

digit_no_sign : (c : ℕ) → is_ascii_digit c ≡ true → is_sign c ≡ false
digit_no_sign c h = let r = digit_range c h in rw (ne_eqb c 43 (λ e. omega arith), ne_eqb c 45 (λ e. omega arith)) refl

digit_no_minus : (c : ℕ) → is_ascii_digit c ≡ true → is_minus_char c ≡ false
digit_no_minus c h = let r = digit_range c h in ne_eqb c 45 (λ e. omega arith)

letter_no_digit : (c : ℕ) → is_letter_e c ≡ true → (is_ascii_digit c ≡ false) × (is_point c ≡ false)
letter_no_digit c h = elim (or_cases _ _ h) [ inl e ↦ (rw (eqb-true c 101 e) refl, rw (eqb-true c 101 e) refl) | inr e ↦ (rw (eqb-true c 69 e) refl, rw (eqb-true c 69 e) refl) ]

digits_again : (ds rest : List ℕ) → all_ascii_digits ds ≡ true → first_is is_ascii_digit rest ≡ false → (prefix is_ascii_digit (ds ++ rest) ≡ ds) × (following is_ascii_digit (ds ++ rest) ≡ rest)
digits_again [] rest h e = (prefix_stop is_ascii_digit rest e, after_stop is_ascii_digit rest e)
digits_again (c ∷ ds) rest h e =
    let p = and_parts (is_ascii_digit c) (all_ascii_digits ds) h in
    let r = digits_again ds rest p.1 e in
    (rw p.0 (ap (λ (l : List ℕ). c ∷ l) r.0), rw p.0 r.1)

-- the digits of an exponent begin with no minus
digits_no_minus : (ds rest : List ℕ) → all_ascii_digits ds ≡ true → 0 < length ds → first_is is_minus_char (ds ++ rest) ≡ false
digits_no_minus [] rest h n = absurd (omega arith)
digits_no_minus (c ∷ ds) rest h n = digit_no_minus c (and_parts (is_ascii_digit c) (all_ascii_digits ds) h).0

exponent_found : (l : ℕ) (m : Bool) (ds rest : List ℕ) → is_letter_e l ≡ true → all_ascii_digits ds ≡ true → (m ≡ false → first_is is_minus_char (ds ++ rest) ≡ false) → first_is is_ascii_digit rest ≡ false
    → (exponent_at (exponent_text (Some (record { letter = l; minus = m; digits = ds })) ++ rest) ≡ Some (record { letter = l; minus = m; digits = ds }))
    × (after_exponent (exponent_text (Some (record { letter = l; minus = m; digits = ds })) ++ rest) ≡ rest)
exponent_found l true ds rest h a n e =
    let r = digits_again ds rest a e in
    (rw (h, r.0) refl, rw (h, r.1) refl)
exponent_found l false ds rest h a n e =
    let r = digits_again ds rest a e in
    let k = n refl in
    (rw (h, k, one_stop is_minus_char (ds ++ rest) k, r.0) refl, rw (h, one_stop is_minus_char (ds ++ rest) k, r.1) refl)

exponent_again : (f : Option (List ℕ)) (x : Option Exponent) (rest : List ℕ) → IfSome x (λ e. is_letter_e e.letter ≡ true) → IfSome x (λ e. all_ascii_digits e.digits ≡ true) → IfSome x (λ e. e.minus ≡ false → first_is is_minus_char (e.digits ++ rest) ≡ false)
    → first_is (continues f x) rest ≡ false → (exponent_at (exponent_text x ++ rest) ≡ x) × (after_exponent (exponent_text x ++ rest) ≡ rest)
exponent_again None None rest l d g e = let s = no_more_none rest e in (exponent_stop rest s, after_exponent_stop rest s) where
  no_more_none : (t : List ℕ) → first_is (continues None None) t ≡ false → first_is is_letter_e t ≡ false
  no_more_none [] h = refl
  no_more_none (c ∷ cs) h = or_false _ (is_letter_e c) h
exponent_again (Some ds) None rest l d g e = let s = no_more_some rest e in (exponent_stop rest s, after_exponent_stop rest s) where
  no_more_some : (t : List ℕ) → first_is (continues (Some ds) None) t ≡ false → first_is is_letter_e t ≡ false
  no_more_some [] h = refl
  no_more_some (c ∷ cs) h = or_false _ (is_letter_e c) h
exponent_again None (Some x) rest l d g e = exponent_found x.letter x.minus x.digits rest l d g e
exponent_again (Some ds) (Some x) rest l d g e = exponent_found x.letter x.minus x.digits rest l d g e

fraction_again : (f : Option (List ℕ)) (rest : List ℕ) → IfSome f (λ ds. all_ascii_digits ds ≡ true) → first_is is_ascii_digit rest ≡ false → (f ≡ None → first_is is_point rest ≡ false)
    → (fraction_at (fraction_text f ++ rest) ≡ f) × (after_fraction (fraction_text f ++ rest) ≡ rest)
fraction_again None rest d e n = (fraction_stop rest (n refl), after_fraction_stop rest (n refl))
fraction_again (Some ds) rest d e n = let r = digits_again ds rest d e in (rw r.0 refl, r.1)

sign_again : (s : Option ℕ) (rest : List ℕ) → IfSome s (λ c. is_sign c ≡ true) → (s ≡ None → first_is is_sign rest ≡ false)
    → (first_if is_sign (sign_text s ++ rest) ≡ s) × (after_one is_sign (sign_text s ++ rest) ≡ rest)
sign_again None rest h n = (first_stop is_sign rest (n refl), one_stop is_sign rest (n refl))
sign_again (Some c) rest h n = (rw h refl, rw h refl)

-- what goes on with no run of a kind is no digit
no_digit : (f : Option (List ℕ)) (x : Option Exponent) (rest : List ℕ) → first_is (continues f x) rest ≡ false → first_is is_ascii_digit rest ≡ false
no_digit None None [] e = refl
no_digit None (Some x) [] e = refl
no_digit (Some ds) None [] e = refl
no_digit (Some ds) (Some x) [] e = refl
no_digit None None (c ∷ cs) e = (or_parts (is_ascii_digit c) (is_point c) (or_parts (is_ascii_digit c || is_point c) (is_letter_e c) e).0).0
no_digit (Some ds) None (c ∷ cs) e = (or_parts (is_ascii_digit c) (is_letter_e c) e).0
no_digit None (Some x) (c ∷ cs) e = e
no_digit (Some ds) (Some x) (c ∷ cs) e = e

no_point : (x : Option Exponent) (rest : List ℕ) → IfSome x (λ e. is_letter_e e.letter ≡ true) → first_is (continues None x) rest ≡ false → first_is is_point (exponent_text x ++ rest) ≡ false
no_point None [] l e = refl
no_point None (c ∷ cs) l e = (or_parts (is_ascii_digit c) (is_point c) (or_parts (is_ascii_digit c || is_point c) (is_letter_e c) e).0).1
no_point (Some x) rest l e = (letter_no_digit x.letter l).1

exponent_no_digit : (f : Option (List ℕ)) (x : Option Exponent) (rest : List ℕ) → IfSome x (λ e. is_letter_e e.letter ≡ true) → first_is (continues f x) rest ≡ false → first_is is_ascii_digit (exponent_text x ++ rest) ≡ false
exponent_no_digit f None rest l e = no_digit f None rest e
exponent_no_digit f (Some x) rest l e = (letter_no_digit x.letter l).0

fraction_no_digit : (f : Option (List ℕ)) (rest : List ℕ) → first_is is_ascii_digit rest ≡ false → first_is is_ascii_digit (fraction_text f ++ rest) ≡ false
fraction_no_digit None rest e = e
fraction_no_digit (Some ds) rest e = refl

exponent_good : (minus : Bool) (whole : List ℕ) (f : Option (List ℕ)) (x : Option Exponent) → AreGoodParts minus whole f x → IfSome x (λ e. 0 < length e.digits)
exponent_good minus whole None None g = tt
exponent_good minus whole (Some ds) None g = tt
exponent_good minus whole None (Some x) g = g.1
exponent_good minus whole (Some ds) (Some x) g = g.1

exponent_no_minus : (x : Option Exponent) (rest : List ℕ) → IfSome x (λ e. all_ascii_digits e.digits ≡ true) → IfSome x (λ e. 0 < length e.digits)
    → IfSome x (λ e. e.minus ≡ false → first_is is_minus_char (e.digits ++ rest) ≡ false)
exponent_no_minus None rest d g = tt
exponent_no_minus (Some x) rest d g = λ n. digits_no_minus x.digits rest d g

-- a good run without a sign begins with none
good_no_sign : (minus : Bool) (whole : List ℕ) (f : Option (List ℕ)) (x : Option Exponent) (rest : List ℕ) → AreGoodParts minus whole f x → all_ascii_digits whole ≡ true → first_is is_sign (whole ++ (fraction_text f ++ rest)) ≡ false
good_no_sign minus (c ∷ cs) f x rest g h = digit_no_sign c (and_parts (is_ascii_digit c) (all_ascii_digits cs) h).0
good_no_sign minus [] (Some ds) x rest g h = refl
good_no_sign minus [] None None rest g h = absurd (omega (arith, g.0))
good_no_sign minus [] None (Some x) rest g h = absurd (omega (arith, g.0))

-- what a run writes before its digits
run_parts : (r : Run) (rest : List ℕ) → run_text r ++ rest ≡ sign_text r.sign ++ (r.whole ++ (fraction_text r.fraction ++ (exponent_text r.exponent ++ rest)))
run_parts r rest = simp append_assoc

-- a run that has its signs and is as long as it goes is the one that is taken, good or not
pub signed_run_again : (r : Run) (rest : List ℕ) → IsRun r → (r.sign ≡ None → first_is is_sign (run_text r ++ rest) ≡ false)
    → IfSome r.exponent (λ e. e.minus ≡ false → first_is is_minus_char (e.digits ++ rest) ≡ false)
    → first_is (continues r.fraction r.exponent) rest ≡ false → (run_at (run_text r ++ rest) ≡ r) × (after_run (run_text r ++ rest) ≡ rest)
unfolding run_at after_run after_whole after_sign
signed_run_again r rest h signed minus e =
    let tail3 = exponent_text r.exponent ++ rest in
    let tail2 = fraction_text r.fraction ++ tail3 in
    let tail1 = r.whole ++ tail2 in
    let whole_text : run_text r ++ rest ≡ sign_text r.sign ++ tail1 = run_parts r rest in
    let x = exponent_again r.fraction r.exponent rest h.letter h.digits minus e in
    let no3 = exponent_no_digit r.fraction r.exponent rest h.letter e in
    let f = fraction_again r.fraction tail3 h.fraction no3 (λ n. no_point r.exponent rest h.letter (subst (λ (f : Option (List ℕ)). first_is (continues f r.exponent) rest ≡ false) n e)) in
    let w = digits_again r.whole tail2 h.whole (fraction_no_digit r.fraction tail3 no3) in
    let s = sign_again r.sign tail1 h.sign (λ n. subst (λ (o : Option ℕ). first_is is_sign (sign_text o ++ tail1) ≡ false) n (sym (ap (first_is is_sign) whole_text) ∙ signed n)) in
    (rw (whole_text, s.0, s.1, w.0, w.1, f.0, f.1, x.0) refl, rw (whole_text, s.1, w.1, f.1, x.1) refl)

pub run_again : (r : Run) (rest : List ℕ) → IsRun r → IsGood r → first_is (continues r.fraction r.exponent) rest ≡ false → (run_at (run_text r ++ rest) ≡ r) × (after_run (run_text r ++ rest) ≡ rest)
run_again r rest h g e =
    let tail3 = exponent_text r.exponent ++ rest in
    let tail1 = r.whole ++ (fraction_text r.fraction ++ tail3) in
    signed_run_again r rest h
    (λ n. ap (first_is is_sign) (run_parts r rest) ∙ subst (λ (o : Option ℕ). first_is is_sign (sign_text o ++ tail1) ≡ false) (sym n) (good_no_sign (is_minus r.sign) r.whole r.fraction r.exponent tail3 g h.whole))
    (exponent_no_minus r.exponent rest h.digits (exponent_good (is_minus r.sign) r.whole r.fraction r.exponent g)) e
