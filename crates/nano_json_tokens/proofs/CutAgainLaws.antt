-- What is written of scalars is cut into its tokens.
use Rattle.std.specs.Prelude.{◌≡◌, ℕ, ◌+◌, ◌%◌, ◌<◌, ◌≤◌, ◌^◌, ◌==◌, ℤ, pos, negsuc, neg_ℤ, suc}
use Rattle.std.specs.Prelude.{FitsSigned, Bool, true, false, List, [], ◌∷◌, ◌++◌, length, Option}
use Rattle.std.specs.Prelude.{Some, None, codes, refl}
use Rattle.std.specs.Char.{is_ascii_digit}
use Rattle.std.specs.Fmt.{decimal, signed_decimal}
use Rattle.std.specs.Int.{w64}
use Rattle.std.specs.Str.{all_ascii_digits}
use Rattle.std.proofs.Common.{sym, subst, ap, inl, inr, append-nil, length-append, eqb-true, arith}
use Rattle.std.proofs.lemmas.Bool.{and_parts, or_cases, and_from, or_right}
use Rattle.std.proofs.lemmas.Bool.Decides.{nat_tests}
use Rattle.std.proofs.lemmas.Fmt.{decimal_by_steps, decimal_is_IsNumeral}
use Rattle.nano_text.specs.Characters.{first_is}
use Rattle.nano_text.specs.Number.{IsNumber, Run, Exponent, is_sign, continues, sign_text}
use Rattle.nano_text.specs.Number.{fraction_text, exponent_text, run_text, is_minus, number_of}
use Rattle.nano_text.specs.Number.{number_from_parts}
use Rattle.nano_text.specs.declared.number.Number.TheVariants.{U64, I64, Dec}
use Rattle.nano_grammar.specs.Tokens.{is_textual, AllTextual, IsCutInto}
use Rattle.nano_json_tokens.specs.Token.{Token, u64, i64, f64, bool, null}
use Rattle.nano_json_tokens.specs.Cut.{is_word, IsPunctuator, IsLexeme, punctuator, word, number}
use Rattle.nano_json_tokens.specs.Cut.{starts_number, Cut}
use Rattle.nano_json_tokens.specs.Written.{MayFollow, may_follow, written_truth}
use Rattle.nano_json_tokens.specs.WrittenImpls.{signed_token}

-- the lexeme stands at the beginning
pub cut_at_once : (text rest : List ℕ) (t : Token) → IsLexeme t text rest → Cut text t rest
cut_at_once text rest t h =
    record { space = []; body = text; split = refl; skipped = tt; lexeme = h }

pub punctuator_is_cut : (punctuator_char : ℕ) (t : Token)
    → ((rest : List ℕ) → IsPunctuator t (punctuator_char ∷ rest) rest)
    → (rest : List ℕ) → Cut (punctuator_char ∷ rest) t rest
punctuator_is_cut m t h rest = cut_at_once (m ∷ rest) rest t (punctuator (h rest))

-- ---- what follows goes on with no word and no number

-- what may follow is none of the characters that pass
abbrev Apart : (ℕ → Bool) → Type 0
Apart test = (c : ℕ) → may_follow c ≡ true → test c ≡ false

none_goes_on : (test : ℕ → Bool) → Apart test → (rest : List ℕ) → MayFollow rest
    → first_is test rest ≡ false
none_goes_on test apart [] h = refl
none_goes_on test apart (c ∷ cs) h = apart c h

-- what holds of each character that may follow
follower : (P : ℕ → Type 0) → P 10 → P 13 → P 9 → P 32 → P 44 → P 58 → P 93 → P 125
    → (c : ℕ) → may_follow c ≡ true → P c
follower P p10 p13 p9 p32 p44 p58 p93 p125 c h =
    let is = λ (k : ℕ) (p : P k) (e : c == k ≡ true). subst P (sym (eqb-true c k e)) p in
    elim (or_cases _ _ h) [
      | inl s ↦ elim (or_cases _ _ s) [
        | inl s ↦ elim (or_cases _ _ s) [
          | inl s ↦ elim (or_cases _ _ s) [ inl e ↦ is 10 p10 e | inr e ↦ is 13 p13 e ]
          | inr e ↦ is 9 p9 e
        ]
        | inr e ↦ is 32 p32 e
      ]
      | inr s ↦ elim (or_cases _ _ s) [
        | inl s ↦ elim (or_cases _ _ s) [ inl e ↦ is 44 p44 e | inr e ↦ is 58 p58 e ]
        | inr s ↦ elim (or_cases _ _ s) [ inl e ↦ is 93 p93 e | inr e ↦ is 125 p125 e ]
      ]
    ]

no_word_goes_on : (rest : List ℕ) → MayFollow rest → first_is is_word rest ≡ false
no_word_goes_on = none_goes_on is_word
    (follower (λ c. is_word c ≡ false) refl refl refl refl refl refl refl refl)

no_number : (fraction : Option (List ℕ)) (exponent : Option Exponent)
    → Apart (continues fraction exponent)
no_number None None =
    follower (λ c. continues None None c ≡ false) refl refl refl refl refl refl refl refl
no_number (Some ds) None =
    follower (λ c. continues (Some ds) None c ≡ false) refl refl refl refl refl refl refl refl
no_number None (Some e) =
    follower (λ c. continues None (Some e) c ≡ false) refl refl refl refl refl refl refl refl
no_number (Some ds) (Some e) =
    follower (λ c. continues (Some ds) (Some e) c ≡ false) refl refl refl refl refl refl refl refl

no_number_goes_on : (fraction : Option (List ℕ)) (exponent : Option Exponent)
    → (rest : List ℕ) → MayFollow rest → first_is (continues fraction exponent) rest ≡ false
no_number_goes_on fraction exponent =
    none_goes_on (continues fraction exponent) (no_number fraction exponent)

-- ---- words

pub truth_is_cut : (b : Bool) → IsCutInto Cut MayFollow (bool b ∷ []) (written_truth b)
truth_is_cut true rest h =
    let is = word (refl, no_word_goes_on rest h) in
    (rest, cut_at_once (codes "true" ++ rest) rest (bool true) is, refl)
truth_is_cut false rest h =
    let is = word (refl, no_word_goes_on rest h) in
    (rest, cut_at_once (codes "false" ++ rest) rest (bool false) is, refl)

pub null_is_cut : IsCutInto Cut MayFollow (null ∷ []) (codes "null")
null_is_cut rest h =
    let is = word (refl, no_word_goes_on rest h) in
    (rest, cut_at_once (codes "null" ++ rest) rest null is, refl)

-- ---- numbers

-- what the decimal digits of a number are
record AreDigitsOf (n : ℕ) (ds : List ℕ) : Type 0 where
  pub all : all_ascii_digits ds ≡ true
  pub some : 0 < length ds

digit_is : (d : ℕ) → d < 10 → is_ascii_digit (48 + d) ≡ true
digit_is d h = grind (arith, nat_tests)

digits_append : (xs ys : List ℕ) → all_ascii_digits xs ≡ true → all_ascii_digits ys ≡ true
    → all_ascii_digits (xs ++ ys) ≡ true
digits_append [] ys h k = k
digits_append (x ∷ xs) ys h k =
    let parts = and_parts (is_ascii_digit x) (all_ascii_digits xs) h in
    and_from (is_ascii_digit x) (all_ascii_digits (xs ++ ys)) parts.0
    (digits_append xs ys parts.1 k)

decimal_digits : (n : ℕ) → n < 2 ^ 64 → AreDigitsOf n (decimal n)
decimal_digits = decimal_by_steps AreDigitsOf
    (λ n small. record {
      all = and_from (is_ascii_digit (48 + n)) true (digit_is n small) refl;
      some = omega arith;
    })
    (λ n ds large h. record {
      all = digits_append ds ((48 + n % 10) ∷ []) h.all
          (and_from (is_ascii_digit (48 + n % 10)) true (digit_is (n % 10) (omega arith)) refl);
      some = let long = length-append ds ((48 + n % 10) ∷ []) in omega (arith, long);
    })

-- digits begin with one
starts_with_digit : (ds rest : List ℕ) → all_ascii_digits ds ≡ true → 0 < length ds
    → first_is starts_number (ds ++ rest) ≡ true
starts_with_digit [] rest h k = absurd (omega (arith, k))
starts_with_digit (d ∷ ds) rest h k =
    or_right (is_sign d) (is_ascii_digit d)
    (and_parts (is_ascii_digit d) (all_ascii_digits ds) h).0

-- the run of digits after an optional minus sign
abbrev digits_run : Option ℕ → ℕ → Run
digits_run sign n = record { sign = sign; whole = decimal n; fraction = None; exponent = None }

pub unsigned_is_cut : (n : ℕ) → n < 2 ^ 64 → IsCutInto Cut MayFollow (u64 n ∷ []) (decimal n)
unsigned_is_cut n small rest h =
    let ds = decimal_digits n small in
    let value = (decimal_is_IsNumeral n small).1 in
    let run : IsNumber (decimal n ++ rest) (U64 n) (decimal n) rest = record {
      parts = digits_run None n;
      is_run = record { sign = tt; whole = ds.all; fraction = tt; letter = tt; digits = tt };
      good = (ds.some, subst (λ m. m < 2 ^ 64) (sym value) small);
      number_is = ap (λ m. U64 m) (sym value);
      run_is = sym (append-nil (decimal n));
      split = refl;
      ends = no_number_goes_on None None rest h;
    } in
    let starts = starts_with_digit (decimal n) rest ds.all ds.some in
    (rest, cut_at_once (decimal n ++ rest) rest (u64 n) (number starts (decimal n, run)), refl)

-- a minus sign and digits, of 0 too
pub minus_is_cut : (n : ℕ) → n ≤ 2 ^ 63
    → IsCutInto Cut MayFollow (i64 (neg_ℤ (pos n)) ∷ []) (45 ∷ decimal n)
minus_is_cut n small rest h =
    let bound : n < 2 ^ 64 = omega (arith, small) in
    let ds = decimal_digits n bound in
    let value = (decimal_is_IsNumeral n bound).1 in
    let digits = 45 ∷ decimal n in
    let run : IsNumber (digits ++ rest) (I64 (neg_ℤ (pos n))) digits rest = record {
      parts = digits_run (Some 45) n;
      is_run = record { sign = refl; whole = ds.all; fraction = tt; letter = tt; digits = tt };
      good = (ds.some, subst (λ m. m ≤ 2 ^ 63) (sym value) small);
      number_is = ap (λ m. I64 (neg_ℤ (pos m))) (sym value);
      run_is = ap (λ (l : List ℕ). 45 ∷ l) (sym (append-nil (decimal n)));
      split = refl;
      ends = no_number_goes_on None None rest h;
    } in
    let token = i64 (neg_ℤ (pos n)) in
    (rest, cut_at_once (digits ++ rest) rest token (number refl (digits, run)), refl)

pub signed_is_cut : (z : ℤ) → FitsSigned w64 z
    → IsCutInto Cut MayFollow (signed_token z ∷ []) (signed_decimal z)
signed_is_cut (pos n) fits = let small = fits.sfits in unsigned_is_cut n (omega (arith, small))
signed_is_cut (negsuc n) fits = let small = fits.sfits in minus_is_cut (suc n) (omega (arith, small))

-- a run with a point or an exponent has a character
run_some : (r : Run) → Dec ≡ number_of r → 0 < length (run_text r)
run_some r is =
    elim r.fraction as (λ (f : Option (List ℕ)). r.fraction ≡ f → 0 < length (run_text r)) [
      | Some ds ↦ λ e. let long = parts_long r in
          omega (arith, long, ap (λ f. length (fraction_text f)) e)
      | None ↦ λ e. elim r.exponent as (λ (x : Option Exponent). r.exponent ≡ x → 0 < length (run_text r)) [
        | Some x ↦ λ k. let long = parts_long r in
            omega (arith, long, ap (λ x. length (exponent_text x)) k)
        | None ↦ λ k. absurd (not_integer (is_minus r.sign) r.whole
            (subst (λ (x : Option Exponent). Dec ≡ number_from_parts (is_minus r.sign) r.whole None x) k
            (subst (λ (f : Option (List ℕ)). Dec ≡ number_from_parts (is_minus r.sign) r.whole f r.exponent) e is)))
      ] refl
    ] refl
  where
    parts_long : (r : Run) → length (fraction_text r.fraction) + length (exponent_text r.exponent) ≤ length (run_text r)
    parts_long r =
        let tail = fraction_text r.fraction ++ exponent_text r.exponent in
        omega (
          arith,
          length-append (sign_text r.sign) (r.whole ++ tail),
          length-append r.whole tail,
          length-append (fraction_text r.fraction) (exponent_text r.exponent),
        )

    not_integer : (minus : Bool) (whole : List ℕ) → Dec ≡ number_from_parts minus whole None None → ⊥
    not_integer true whole e = cc e
    not_integer false whole e = cc e

starts_again : (run rest other : List ℕ) → 0 < length run → first_is starts_number (run ++ rest) ≡ true
    → first_is starts_number (run ++ other) ≡ true
starts_again [] rest other some h = absurd (omega (arith, some))
starts_again (c ∷ cs) rest other some h = h

-- the run of a decimal
pub decimal_is_cut : (text run rest : List ℕ) → first_is starts_number text ≡ true
    → IsNumber text Dec run rest → IsCutInto Cut MayFollow (f64 run ∷ []) run
decimal_is_cut text run rest starts n other h =
    let again : IsNumber (run ++ other) Dec run other = record {
      parts = n.parts;
      is_run = n.is_run;
      good = n.good;
      number_is = n.number_is;
      run_is = n.run_is;
      split = refl;
      ends = no_number_goes_on n.parts.fraction n.parts.exponent other h;
    } in
    let some = subst (λ (l : List ℕ). 0 < length l) (sym n.run_is) (run_some n.parts n.number_is) in
    let begins = starts_again run rest other some
    (subst (λ (l : List ℕ). first_is starts_number l ≡ true) n.split starts) in
    (other, cut_at_once (run ++ other) other (f64 run) (number begins again), refl)

-- ---- what is written holds characters that a text may hold

digits_textual : (ds : List ℕ) → all_ascii_digits ds ≡ true → AllTextual ds
digits_textual [] h = tt
digits_textual (d ∷ ds) h =
    let parts = and_parts (is_ascii_digit d) (all_ascii_digits ds) h in
    (one d parts.0, digits_textual ds parts.1)
  where
    one : (c : ℕ) → is_ascii_digit c ≡ true → is_textual c ≡ true
    one c e = grind (arith, nat_tests)

pub unsigned_textual : (n : ℕ) → n < 2 ^ 64 → AllTextual (decimal n)
unsigned_textual n small = digits_textual (decimal n) (decimal_digits n small).all

pub signed_textual : (z : ℤ) → FitsSigned w64 z → AllTextual (signed_decimal z)
signed_textual (pos n) fits = let small = fits.sfits in unsigned_textual n (omega (arith, small))
signed_textual (negsuc n) fits =
    let small = fits.sfits in
    (refl, unsigned_textual (suc n) (omega (arith, small)))

pub truth_textual : (b : Bool) → AllTextual (written_truth b)
truth_textual true = (refl, (refl, (refl, (refl, tt))))
truth_textual false = (refl, (refl, (refl, (refl, (refl, tt)))))

pub null_textual : AllTextual (codes "null")
null_textual = (refl, (refl, (refl, (refl, tt))))
