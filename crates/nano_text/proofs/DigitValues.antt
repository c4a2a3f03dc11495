-- The value of digits, one after another.
use Rattle.std.proofs.Common.{◌≡◌, ℕ, ◌+◌, ◌*◌, ◌-◌, ◌<◌, ◌≤◌, List, [], ◌∷◌, Bool, true, false}
use Rattle.std.proofs.Common.{cond, refl, ap, sym, ◌∙◌, arith, drop, length, get_or, add-one, chars}
use Rattle.std.proofs.Common.{encode_utf8_all, IsUtf8, ℤ, pos, negsuc, ◌/◌, ◌%◌, ◌^◌, ◌++◌, Result}
use Rattle.std.proofs.Common.{Ok, Err, OnOk, append_assoc, zero, suc, inl, inr, take, set}
use Rattle.std.proofs.Common.{replicate, length-append, length-set, IsAscii, subst}
use Rattle.std.proofs.lemmas.List.{drop_all, drop-drop, drop-set, drop-set-lt, take_at}
use Rattle.std.proofs.Math.Seq.{drop-cons}
use Rattle.std.specs.Char.{is_ascii_digit, digit_value}
use Rattle.std.proofs.lemmas.Bool.Decides.{nat_tests}
use Rattle.std.specs.Str.Parse.{digits_value, digits_value_after}
use Rattle.std.proofs.lemmas.Str.{encode_ascii, IsAscii-append}
use Rattle.std.specs.Str.Iter.{chars_rest}
use Rattle.std.specs.declared.str.Chars.{Chars}
use Rattle.std.specs.Fmt.{decimal, signed_decimal}
use Rattle.std.specs.Int.Signed.{lt_z}
use Rattle.std.proofs.Math.IntN.{nat_abs}
use Rattle.std.proofs.lemmas.Bool.{false≢true, ltb-true, cases_lt}
use Rattle.std.proofs.lemmas.Fmt.{decimal_digit, decimal_step}
use Rattle.std.proofs.lemmas.Str.Ascii.{IsAscii-nil, IsAscii-cons}
use Rattle.nano_text.specs.Characters.{prefix, three_digits}
use Rattle.nano_text.specs.Place.{remaining}
use Rattle.nano_text.proofs.Prefixes.{prefix-remaining, digits_cut}

pub digit_is : (c : ℕ) → is_ascii_digit c ≡ true → digit_value c ≡ c - 48
digit_is c h = grind (arith, nat_tests)

pub digit_small : (c : ℕ) → is_ascii_digit c ≡ true → c - 48 < 10
digit_small c h = grind (arith, nat_tests)

-- the digits from a place on
pub prefix_at_digit : (bytes : List ℕ) (i : ℕ) → i < length bytes → is_ascii_digit (get_or bytes i 0) ≡ true → prefix is_ascii_digit (drop i bytes) ≡ get_or bytes i 0 ∷ prefix is_ascii_digit (drop (i + 1) bytes)
prefix_at_digit bytes i inside digit = rw (add-one, drop-cons bytes i 0, digit) refl

pub prefix_at_other : (bytes : List ℕ) (i : ℕ) → i < length bytes → is_ascii_digit (get_or bytes i 0) ≡ false → prefix is_ascii_digit (drop i bytes) ≡ []
prefix_at_other bytes i inside other = rw (drop-cons bytes i 0, other) refl

pub prefix_at_end : (bytes : List ℕ) (i : ℕ) → length bytes ≤ i → prefix is_ascii_digit (drop i bytes) ≡ []
prefix_at_end bytes i past = rw (drop_all i bytes past) refl

pub digit_from_value : (c : ℕ) → digit_value c < 10 → is_ascii_digit c ≡ true
digit_from_value c h = grind (arith, nat_tests)

pub no_digit_from_value : (c : ℕ) → (digit_value c < 10 → ⊥) → is_ascii_digit c ≡ false
no_digit_from_value c h = grind (arith, nat_tests)

pub digit_ascii : (c : ℕ) → is_ascii_digit c ≡ true → c < 128
digit_ascii c h = grind (arith, nat_tests)

-- digits are their bytes
digits-encodes : (cs : List ℕ) → encode_utf8_all (prefix is_ascii_digit cs) ≡ prefix is_ascii_digit cs
digits-encodes [] = refl
digits-encodes (c ∷ cs) = elim (is_ascii_digit c) as (λ (b : Bool). is_ascii_digit c ≡ b → encode_utf8_all (cond b (c ∷ prefix is_ascii_digit cs) []) ≡ cond b (c ∷ prefix is_ascii_digit cs) []) [
  | true ↦ λ e. rw (encode_ascii c (digit_ascii c e)) (ap (λ (l : List ℕ). c ∷ l) (digits-encodes cs))
  | false ↦ λ e. refl
] refl

-- the digits that bytes begin with are those that their text does
pub digits-chars : (bytes : List ℕ) → IsUtf8 bytes → prefix is_ascii_digit bytes ≡ prefix is_ascii_digit (chars bytes)
digits-chars bytes utf8 = (digits_cut bytes utf8).prefix_is ∙ digits-encodes (chars bytes)

-- the digits of the remaining input: the current character, and those that the bytes after it
-- begin with
pub digits-remaining : (cur : ℕ) (before : Chars) (text : List ℕ) → is_ascii_digit cur ≡ true → IsUtf8 text → text ≡ chars_rest before → prefix is_ascii_digit (remaining cur before) ≡ cur ∷ prefix is_ascii_digit text
digits-remaining cur before text digit utf8 is =
    prefix-remaining is_ascii_digit refl digits_cut cur before digit ∙ ap (λ (l : List ℕ). cur ∷ l) (ap (λ (bs : List ℕ). prefix is_ascii_digit (chars bs)) (sym is) ∙ sym (digits-chars text utf8))

pub digits_value-remaining : (cur first : ℕ) (before : Chars) (text : List ℕ) → is_ascii_digit cur ≡ true → first ≡ digit_value cur → IsUtf8 text → text ≡ chars_rest before
    → digits_value_after 10 first (prefix is_ascii_digit text) ≡ digits_value 10 (prefix is_ascii_digit (remaining cur before))
digits_value-remaining cur first before text digit is utf8 held_is =
    let start : first ≡ 0 * 10 + digit_value cur = omega (arith, is) in
    ap (λ (n : ℕ). digits_value_after 10 n (prefix is_ascii_digit text)) start ∙ sym (ap (digits_value 10) (digits-remaining cur before text digit utf8 held_is))

-- ==== decimals

-- what is appended, under another name
pub appended_as : {T E : Type 0} (r : Result T E) (before after piece whole : List ℕ) → OnOk r (after ≡ before ++ piece) → whole ≡ piece → OnOk r (after ≡ before ++ whole)
appended_as (Ok x) before after piece whole e w = e ∙ ap (λ l. before ++ l) (sym w)
appended_as (Err x) before after piece whole e w = tt

pub decimal_two : (n : ℕ) → 10 ≤ n → n < 100 → decimal n ≡ (48 + n / 10) ∷ (48 + n % 10) ∷ []
decimal_two n low high = decimal_step n low (omega (arith, high)) ∙ ap (λ l. l ++ (48 + n % 10) ∷ []) (decimal_digit (n / 10) (omega (arith, high)))

pub decimal_three : (n : ℕ) → 100 ≤ n → n < 1000 → decimal n ≡ three_digits n
decimal_three n low high =
    let hundreds : n / 10 / 10 ≡ n / 100 = omega arith in
    decimal_step n (omega (arith, low)) (omega (arith, high))
    ∙ (ap (λ l. l ++ (48 + n % 10) ∷ []) (decimal_two (n / 10) (omega (arith, low)) (omega (arith, high)))
    ∙ (λ i. (48 + hundreds i) ∷ (48 + n / 10 % 10) ∷ (48 + n % 10) ∷ []))

pub decimal_thousand : (n : ℕ) → 1000 ≤ n → n < 2 ^ 64 → decimal n ≡ decimal (n / 1000) ++ three_digits (n % 1000)
decimal_thousand n low fits =
    let a : n / 10 / 10 / 10 ≡ n / 1000 = omega arith in
    let b : n / 10 / 10 % 10 ≡ n % 1000 / 100 = omega arith in
    let c : n / 10 % 10 ≡ n % 1000 / 10 % 10 = omega arith in
    let d : n % 10 ≡ n % 1000 % 10 = omega arith in
    let prefix = decimal (n / 10 / 10 / 10) in
    let hundreds = (48 + n / 10 / 10 % 10) ∷ [] in
    let tens = (48 + n / 10 % 10) ∷ [] in
    let ones = (48 + n % 10) ∷ [] in
    decimal_step n (omega (arith, low)) fits
    ∙ (ap (λ l. l ++ ones) (decimal_step (n / 10) (omega (arith, low)) (omega (arith, fits))
    ∙ (ap (λ l. l ++ tens) (decimal_step (n / 10 / 10) (omega (arith, low)) (omega (arith, fits))) ∙ append_assoc prefix hundreds tens))
    ∙ (append_assoc prefix (hundreds ++ tens) ones
    ∙ (λ i. decimal (a i) ++ (48 + b i) ∷ (48 + c i) ∷ (48 + d i) ∷ [])))

-- nine digits are those of three triples
pub decimal_billion : (n : ℕ) → 1000000000 ≤ n → n < 2 ^ 64 → (after : List ℕ)
    → decimal (n / 1000000000) ++ (three_digits (n % 1000000000 / 1000 / 1000) ++ (three_digits (n % 1000000000 / 1000 % 1000) ++ (three_digits (n % 1000000000 % 1000) ++ after))) ≡ decimal n ++ after
decimal_billion n low fits after =
    let highest : n / 1000 / 1000 / 1000 ≡ n / 1000000000 = omega arith in
    let first : n / 1000 / 1000 % 1000 ≡ n % 1000000000 / 1000 / 1000 = omega arith in
    let second : n / 1000 % 1000 ≡ n % 1000000000 / 1000 % 1000 = omega arith in
    let third : n % 1000 ≡ n % 1000000000 % 1000 = omega arith in
    let a = decimal (n / 1000 / 1000 / 1000) in
    let b = three_digits (n / 1000 / 1000 % 1000) in
    let c = three_digits (n / 1000 % 1000) in
    let d = three_digits (n % 1000) in
    let whole : decimal n ≡ ((a ++ b) ++ c) ++ d =
    decimal_thousand n (omega (arith, low)) fits
    ∙ ap (λ l. l ++ d) (decimal_thousand (n / 1000) (omega (arith, low)) (omega (arith, fits))
    ∙ ap (λ l. l ++ c) (decimal_thousand (n / 1000 / 1000) (omega (arith, low)) (omega (arith, fits)))) in
    let grouped : (((a ++ b) ++ c) ++ d) ++ after ≡ a ++ (b ++ (c ++ (d ++ after))) = simp append_assoc in
    sym (ap (λ l. l ++ after) whole ∙ (grouped
    ∙ (λ i. decimal (highest i) ++ (three_digits (first i) ++ (three_digits (second i) ++ (three_digits (third i) ++ after))))))

-- ---- a sign before the digits

-- a negative number is its minus sign and the digits of its magnitude
pub with_sign : (z : ℤ) → lt_z z (pos 0) ≡ true → signed_decimal z ≡ (45 ∷ []) ++ decimal (nat_abs z)
with_sign (pos n) negative = absurd (let none = ltb-true n 0 negative in omega (arith, none))
with_sign (negsuc n) negative = refl

-- a number that is not negative is the digits of its magnitude
pub no_sign : (z : ℤ) → lt_z z (pos 0) ≡ false → signed_decimal z ≡ decimal (nat_abs z)
no_sign (pos n) h = refl
no_sign (negsuc n) h = absurd (false≢true (sym h))

-- ==== digits in a buffer

-- how many digits there are
pub length_one : (n : ℕ) → n < 10 → length (decimal n) ≡ 1
length_one n high = ap length (decimal_digit n high)

pub length_two : (n : ℕ) → 10 ≤ n → n < 100 → length (decimal n) ≡ 2
length_two n low high = ap length (decimal_two n low high)

pub length_three : (n : ℕ) → 100 ≤ n → n < 1000 → length (decimal n) ≡ 3
length_three n low high = ap length (decimal_three n low high)

pub length_thousand : (n : ℕ) → 1000 ≤ n → n < 2 ^ 64 → length (decimal n) ≡ length (decimal (n / 1000)) + 3
length_thousand n low high = ap length (decimal_thousand n low high) ∙ length-append _ _

pub length_billion : (n : ℕ) → 1000000000 ≤ n → n < 2 ^ 64 → length (decimal n) ≡ length (decimal (n / 1000000000)) + 9
length_billion n low high =
    let first = length_thousand n (omega (arith, low)) high in
    let second = length_thousand (n / 1000) (omega (arith, low)) (omega (arith, high)) in
    let third = length_thousand (n / 1000 / 1000) (omega (arith, low)) (omega (arith, high)) in
    let highest : n / 1000 / 1000 / 1000 ≡ n / 1000000000 = omega arith in
    let same = ap (λ k. length (decimal k)) highest in
    omega (arith, first, second, third, same)

-- four bytes that end at a place are written: the last three, and what was after them
pub triple_written : (end : ℕ) (buffer : List ℕ) (before a b c : ℕ) → 4 ≤ end → end ≤ length buffer
    → drop (end - 3) (set (set (set (set buffer (end - 1) c) (end - 2) b) (end - 3) a) (end - 4) before) ≡ a ∷ b ∷ c ∷ drop end buffer
triple_written end buffer before a b c low high =
    let ones = set buffer (end - 1) c in
    let tens = set ones (end - 2) b in
    let hundreds = set tens (end - 3) a in
    let after_tens : end - 3 + 1 ≡ end - 2 = omega arith in
    let after_ones : end - 2 + 1 ≡ end - 1 = omega arith in
    let all : end - 1 + 1 ≡ end = omega arith in
    drop-set-lt (end - 3) hundreds (end - 4) before (omega arith)
    ∙ (drop-set tens (end - 3) a (omega (arith, length-set ones (end - 2) b, length-set buffer (end - 1) c))
    ∙ ap (λ (l : List ℕ). a ∷ l) (ap (λ n. drop n tens) after_tens
    ∙ (drop-set ones (end - 2) b (omega (arith, length-set buffer (end - 1) c))
    ∙ ap (λ (l : List ℕ). b ∷ l) (ap (λ n. drop n ones) after_ones
    ∙ (drop-set buffer (end - 1) c (omega arith) ∙ ap (λ n. c ∷ drop n buffer) all)))))

-- the digits of a number below 1,000 are the last of its three
module _ (n end : ℕ) (buffer after : List ℕ) (low : 3 ≤ end) (written : drop (end - 3) buffer ≡ three_digits n ++ after) where
  later : (k : ℕ) → k ≤ 3 → drop (end - 3 + k) buffer ≡ drop k (three_digits n ++ after)
  later k few = sym (drop-drop k (end - 3) buffer) ∙ ap (drop k) written

  pub short_written : (count : ℕ) → n < 1000 → count ≡ length (decimal n) → drop (end - count) buffer ≡ decimal n ++ after
  short_written count high is =
      elim (cases_lt n 10) [
        | inl one ↦
            let place : end - count ≡ end - 3 + 2 = omega (arith, is, length_one n one) in
            let ones : n % 10 ≡ n = omega arith in
            rw (place, decimal_digit n one) (later 2 (omega arith) ∙ ap (λ d. (48 + d) ∷ after) ones)
        | inr more ↦ elim (cases_lt n 100) [
          | inl two ↦
              let place : end - count ≡ end - 3 + 1 = omega (arith, is, length_two n more two) in
              let tens : n / 10 % 10 ≡ n / 10 = omega arith in
              rw (place, decimal_two n more two) (later 1 (omega arith) ∙ ap (λ d. (48 + d) ∷ (48 + n % 10) ∷ after) tens)
          | inr three ↦
              let place : end - count ≡ end - 3 = omega (arith, is, length_three n three high) in
              rw (place, decimal_three n three high) written
        ]
      ]

-- ---- what is appended of a buffer

zeros_ascii : (n : ℕ) → IsAscii (replicate n 48)
zeros_ascii zero = IsAscii-nil
zeros_ascii (suc n) = IsAscii-cons 48 (replicate n 48) (omega arith) (zeros_ascii n)

-- digits, and the zeros that were there after them
module _ (digits rest : List ℕ) (is : rest ≡ digits ++ replicate 20 48) where
  pub written_ascii : IsAscii digits → IsAscii rest
  written_ascii ascii = subst IsAscii (sym is) (IsAscii-append digits (replicate 20 48) ascii (zeros_ascii 20))

  pub written_taken : (start : ℕ) → start + length digits ≡ 23 → take (23 - start) rest ≡ digits
  written_taken start long = ap (take (23 - start)) is ∙ take_at digits (replicate 20 48) (23 - start) (omega (arith, long))

-- a minus sign is written before the digits
pub minus_written : (first : ℕ) (buffer digits after : List ℕ) → 1 ≤ first → first ≤ length buffer → drop first buffer ≡ digits ++ after
    → drop (first - 1) (set buffer (first - 1) 45) ≡ (45 ∷ digits) ++ after
minus_written first buffer digits after low high written =
    let back : first - 1 + 1 ≡ first = omega arith in
    drop-set buffer (first - 1) 45 (omega arith) ∙ ap (λ (l : List ℕ). 45 ∷ l) (ap (λ n. drop n buffer) back ∙ written)
