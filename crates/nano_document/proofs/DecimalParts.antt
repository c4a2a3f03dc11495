-- The parts of a decimal without a sign, one after the other.
use Rattle.std.proofs.Common.{◌≡◌, ◌<◌, ◌≤◌, ◌+◌, ℕ, ◌&&◌, ◌||◌, not, Bool, true, false, cond, List}
use Rattle.std.proofs.Common.{[], ◌∷◌, ◌++◌, length, Some, None, refl, sym, ◌∙◌, ap, arith}
use Rattle.std.proofs.Common.{append-nil, length-append, ne_eqb, ◌==◌}
use Rattle.std.specs.Char.{is_ascii_digit}
use Rattle.std.specs.Str.{all_ascii_digits}
use Rattle.nano_text.specs.Characters.{first_is, prefix, following}
use Rattle.nano_text.specs.Number.{is_point, is_letter_e}
use Rattle.nano_text.specs.Scan.{after_one, is_minus_char, fraction_at, after_fraction, exponent_at}
use Rattle.nano_text.specs.Scan.{after_exponent}
use Rattle.nano_text.proofs.InLine.{fraction_stop, after_fraction_stop}
use Rattle.nano_text.proofs.Runs.{digits_split}
use Rattle.nano_document.specs.Decimals.{is_empty, are_parts, are_digits, is_exponent, is_unsigned}
use Rattle.nano_document.proofs.Deciding.{long_some}

-- ---- both, one of two

and_nothing : (a : Bool) → a && false ≡ false
and_nothing true = refl
and_nothing false = refl

and_once : (a b c : Bool) → (a && b) && c ≡ a && (b && c)
and_once true b c = refl
and_once false b c = refl

-- ---- nothing is left

pub empty_by_length : (xs : List ℕ) → length xs == 0 ≡ is_empty xs
empty_by_length [] = refl
empty_by_length (x ∷ xs) = ne_eqb (length (x ∷ xs)) 0 (λ e. omega (arith, e))

-- ---- digits alone

pub digits_all : (ds : List ℕ) → is_empty (following is_ascii_digit ds) ≡ all_ascii_digits ds
digits_all [] = refl
digits_all (d ∷ ds) =
    let more = following is_ascii_digit ds in
    elim (is_ascii_digit d) as (λ b. is_empty (cond b more (d ∷ ds)) ≡ b && all_ascii_digits ds) [
      | true ↦ digits_all ds
      | false ↦ refl
    ]

digits_alone : (u : List ℕ) → not (is_empty (prefix is_ascii_digit u))
    && is_empty (following is_ascii_digit u) ≡ are_digits u
digits_alone [] = refl
digits_alone (d ∷ ds) =
    let some = prefix is_ascii_digit ds in
    let more = following is_ascii_digit ds in
    elim (is_ascii_digit d) as (λ b. not (is_empty (cond b (d ∷ some) []))
    && is_empty (cond b more (d ∷ ds)) ≡ b && all_ascii_digits ds) [
      | true ↦ digits_all ds
      | false ↦ refl
    ]

-- no more digits are left than there were
digits_length : (t : List ℕ) → length t
    ≡ length (prefix is_ascii_digit t) + length (following is_ascii_digit t)
digits_length t = sym (ap length (digits_split t).0)
    ∙ length-append (prefix is_ascii_digit t) (following is_ascii_digit t)

-- ---- an exponent, or none

powered_alone : (w u : List ℕ)
    → are_parts w None (exponent_at u) && is_empty (after_exponent u)
    ≡ not (is_empty w) && is_exponent u
powered_alone w [] = sym (and_nothing (not (is_empty w)))
powered_alone w (c ∷ cs) =
    let u = after_one is_minus_char cs in
    elim (is_letter_e c) as (λ b. are_parts w None (cond b (Some (record {
      letter = c;
      minus = first_is is_minus_char cs;
      digits = prefix is_ascii_digit u;
    })) None)
    && is_empty (cond b (following is_ascii_digit u) (c ∷ cs))
    ≡ not (is_empty w) && (b && are_digits u)) [
      | true ↦ ap (λ l. (not (is_empty l) && not (is_empty (prefix is_ascii_digit u)))
          && is_empty (following is_ascii_digit u)) (append-nil w)
          ∙ (and_once (not (is_empty w)) (not (is_empty (prefix is_ascii_digit u)))
          (is_empty (following is_ascii_digit u))
          ∙ ap (λ b. not (is_empty w) && b) (digits_alone u))
      | false ↦ sym (and_nothing (not (is_empty w)))
    ]

powered_after : (w ds u : List ℕ)
    → are_parts w (Some ds) (exponent_at u) && is_empty (after_exponent u)
    ≡ not (is_empty (w ++ ds)) && (is_empty u || is_exponent u)
powered_after w ds [] = refl
powered_after w ds (c ∷ cs) =
    let u = after_one is_minus_char cs in
    elim (is_letter_e c) as (λ b. are_parts w (Some ds) (cond b (Some (record {
      letter = c;
      minus = first_is is_minus_char cs;
      digits = prefix is_ascii_digit u;
    })) None)
    && is_empty (cond b (following is_ascii_digit u) (c ∷ cs))
    ≡ not (is_empty (w ++ ds)) && (b && are_digits u)) [
      | true ↦ and_once (not (is_empty (w ++ ds))) (not (is_empty (prefix is_ascii_digit u)))
          (is_empty (following is_ascii_digit u))
          ∙ ap (λ b. not (is_empty (w ++ ds)) && b) (digits_alone u)
      | false ↦ refl
    ]

-- ---- without a point

none_of : (xs : List ℕ) → length xs ≡ 0 → not (is_empty xs) ≡ false
none_of [] h = refl
none_of (x ∷ xs) h = absurd (omega (arith, h))

module _ (t rest : List ℕ) (is : rest ≡ following is_ascii_digit t) where
  parts_alone : first_is is_point rest ≡ false
      → is_unsigned t ≡ not (is_empty (prefix is_ascii_digit t)) && is_exponent rest
  parts_alone none =
      let w = prefix is_ascii_digit t in
      ap (λ u. are_parts w (fraction_at u) (exponent_at (after_fraction u))
      && is_empty (after_exponent (after_fraction u))) (sym is)
      ∙ ((λ i. are_parts w (fraction_stop rest none i) (exponent_at (after_fraction_stop rest none
      i)) && is_empty (after_exponent (after_fraction_stop rest none i)))
      ∙ powered_alone w rest)

  pub some_alone : first_is is_point rest ≡ false → length rest < length t
      → is_exponent rest ≡ is_unsigned t
  some_alone none fewer =
      let count = digits_length t in
      let same = ap length is in
      let some = long_some (prefix is_ascii_digit t) (omega (arith, count, same, fewer)) in
      sym (parts_alone none ∙ ap (λ b. b && is_exponent rest) some)

  pub none_alone : first_is is_point rest ≡ false → length t ≤ length rest → is_unsigned t ≡ false
  none_alone none all =
      let count = digits_length t in
      let same = ap length is in
      parts_alone none ∙ ap (λ b. b && is_exponent rest) (none_of (prefix is_ascii_digit t) (omega
      (arith, count, same, all)))

-- ---- with a point

module _ (t pointed fraction rest : List ℕ) (before : pointed
    ≡ following is_ascii_digit t) (point : pointed ≡ 46 ∷ fraction)
    (is : rest ≡ following is_ascii_digit fraction) where
  abbrev digits : List ℕ
  digits = prefix is_ascii_digit t ++ prefix is_ascii_digit fraction

  parts_after : is_unsigned t ≡ not (is_empty digits) && (is_empty rest || is_exponent rest)
  parts_after =
      let w = prefix is_ascii_digit t in
      ap (λ u. are_parts w (fraction_at u) (exponent_at (after_fraction u))
      && is_empty (after_exponent (after_fraction u))) (sym before ∙ point)
      ∙ (ap (λ u. are_parts w (Some (prefix is_ascii_digit fraction)) (exponent_at u)
      && is_empty (after_exponent u)) (sym is)
      ∙ powered_after w (prefix is_ascii_digit fraction) rest)

  count : length t ≡ length digits + 1 + length rest
  count =
      let one = digits_length t in
      let two = digits_length fraction in
      let pointed_long = ap length (sym before ∙ point) in
      let both = length-append (prefix is_ascii_digit t) (prefix is_ascii_digit fraction) in
      let same = ap length is in
      omega (arith, one, two, pointed_long, both, same)

  pub none_after : length t ≡ length rest + 1 → is_unsigned t ≡ false
  none_after few =
      let long = count in
      parts_after ∙ ap (λ b. b && (is_empty rest || is_exponent rest)) (none_of digits (omega
      (arith, long, few)))

  some_after : (length t ≡ length rest + 1 → ⊥)
      → is_unsigned t ≡ (is_empty rest || is_exponent rest)
  some_after more =
      let long = count in
      parts_after ∙ ap (λ b. b && (is_empty rest || is_exponent rest)) (long_some digits (omega
      (arith, long, more)))

  pub ends_after : (length t ≡ length rest + 1 → ⊥) → is_empty rest ≡ true → is_unsigned t ≡ true
  ends_after more none = some_after more ∙ ap (λ b. b || is_exponent rest) none

  pub goes_on_after : (length t ≡ length rest + 1 → ⊥) → is_empty rest ≡ false
      → is_unsigned t ≡ is_exponent rest
  goes_on_after more some = some_after more ∙ ap (λ b. b || is_exponent rest) some
