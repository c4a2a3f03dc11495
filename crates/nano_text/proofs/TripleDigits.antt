-- What stands in the table of triples.
use Rattle.std.proofs.Common.{◌≡◌, ℕ, ◌+◌, ◌-◌, ◌*◌, ◌<◌, ◌≤◌, List, [], ◌∷◌, length, get_or, take}
use Rattle.std.proofs.Common.{drop, suc, ap, sym, ◌∙◌, inl, inr, arith}
use Rattle.nano_text.specs.Characters.{three_digits}
use Rattle.std.specs.Fmt.{decimal}
use Rattle.std.proofs.lemmas.Bool.{cases_lt, cond-true, cond-false, le-ltb, lt-ltb}
use Rattle.std.proofs.lemmas.Fmt.{decimal_digit}
use Rattle.std.proofs.Math.Seq.{drop-cons}
use Rattle.nano_text.specs.declared.triples.TheConstants.{TRIPLES}
use Rattle.nano_text.proofs.DigitValues.{decimal_two, decimal_three, length_one, length_two}
use Rattle.nano_text.proofs.DigitValues.{length_three}
use Rattle.nano_text.proofs.LaneMasks.{count_below_1000, counted_entry, digit_entry, pair_entry, triple_entry}

-- what is before three digits counts those of the number
count_is : (n : ℕ) → n < 1000 → count_below_1000 n ≡ length (decimal n)
count_is n small =
    elim (cases_lt n 10) [
      | inl one ↦ cond-true _ _ _ (lt-ltb n 10 one) ∙ sym (length_one n one)
      | inr more ↦ cond-false _ _ _ (le-ltb n 10 more) ∙ elim (cases_lt n 100) [
        | inl two ↦ cond-true _ _ _ (lt-ltb n 100 two) ∙ sym (length_two n more two)
        | inr three ↦ cond-false _ _ _ (le-ltb n 100 three) ∙ sym (length_three n three small)
      ]
    ]

pub padded_entry : (n : ℕ) → n < 1000 → take 4 (drop (n * 4) TRIPLES.now) ≡ (48 + length (decimal n)) ∷ three_digits n
padded_entry n small = counted_entry n small ∙ ap (λ k. (48 + k) ∷ three_digits n) (count_is n small)

-- the digits of a number are the last of its four bytes
pub leading_entry : (n count : ℕ) → n < 1000 → count ≡ length (decimal n) → take count (drop (n * 4 + 4 - count) TRIPLES.now) ≡ decimal n
leading_entry n count small is =
    elim (cases_lt n 10) [
      | inl one ↦
          let few : count ≡ 1 = is ∙ length_one n one in
          let place : n * 4 + 4 - 1 ≡ n * 4 + 3 = omega arith in
          rw (few, place, decimal_digit n one) (digit_entry n one)
      | inr more ↦ elim (cases_lt n 100) [
        | inl two ↦
            let few : count ≡ 2 = is ∙ length_two n more two in
            let place : n * 4 + 4 - 2 ≡ n * 4 + 2 = omega arith in
            rw (few, place, decimal_two n more two) (pair_entry n two)
        | inr three ↦
            let few : count ≡ 3 = is ∙ length_three n three small in
            let place : n * 4 + 4 - 3 ≡ n * 4 + 1 = omega arith in
            rw (few, place, decimal_three n three small) (triple_entry n small)
      ]
    ]

-- and lie in the table, with three more
pub leading_within : (n count : ℕ) → n < 1000 → count ≡ length (decimal n) → 0 < count → n * 4 + 4 - count + 4 ≤ 4001
leading_within n count small is some =
    elim (cases_lt n 100) [
      | inl two ↦ omega arith
      | inr three ↦ omega (arith, is, length_three n three small)
    ]

-- four bytes that are read one by one
pub four_read : (bytes : List ℕ) (i : ℕ) → i + 4 ≤ length bytes → (get_or bytes i 0 ∷ get_or bytes (i + 1) 0 ∷ get_or bytes (i + 2) 0 ∷ get_or bytes (i + 3) 0 ∷ []) ≡ take 4 (drop i bytes)
four_read bytes i inside =
    let second : suc i ≡ i + 1 = omega arith in
    let third : suc (i + 1) ≡ i + 2 = omega arith in
    let fourth : suc (i + 2) ≡ i + 3 = omega arith in
    let step = λ (m n : ℕ) (e : m ≡ n). ap (λ k. drop k bytes) e in
    let at = λ (n : ℕ). get_or bytes n 0 in
    sym (ap (take 4) (drop-cons bytes i 0 (omega arith)
    ∙ ap (λ (l : List ℕ). at i ∷ l) (step _ _ second ∙ (drop-cons bytes (i + 1) 0 (omega arith)
    ∙ ap (λ (l : List ℕ). at (i + 1) ∷ l) (step _ _ third ∙ (drop-cons bytes (i + 2) 0 (omega arith)
    ∙ ap (λ (l : List ℕ). at (i + 2) ∷ l) (step _ _ fourth ∙ drop-cons bytes (i + 3) 0 (omega arith))))))))

-- the first of them
pub count_read : (n : ℕ) → n < 1000 → get_or TRIPLES.now (n * 4) 0 ≡ 48 + length (decimal n)
count_read n small = ap (λ l. get_or l 0 0) (four_read TRIPLES.now (n * 4) (omega arith) ∙ padded_entry n small)
