-- The tests that are made of bytes.
use Rattle.std.proofs.Common.{◌≡◌, ◌≢◌, ℕ, ◌≤◌, ◌<◌, ◌==◌, true, false, not, eqb, refl, sym, ◌∙◌}
use Rattle.std.proofs.Common.{ne_eqb, arith, inl, inr, nat_le, Bool, ◌++◌, length, cond, ap}
use Rattle.std.proofs.Common.{append_assoc, append-nil}
use Rattle.std.proofs.lemmas.Bool.Decides.{leb_tells}
use Rattle.std.specs.Prelude.{List, [], ◌∷◌, Option, Some, None, option_map, if◌then◌else◌}
use Rattle.nano_toml.specs.Characters.{IsByteTest, is_space, is_quote, is_sign, is_digit}
use Rattle.nano_toml.specs.Characters.{starts_word, is_in_word, starts_number, is_in_digits}
use Rattle.nano_toml.specs.Characters.{is_in_date}
use Rattle.nano_toml.specs.Scan.{is_plain, is_in_line, Taken, taken, after_gaps, after_one_quote}
use Rattle.nano_toml.specs.Scan.{number_at, tail, after_sign, after_digits, word_at, Content}
use Rattle.nano_toml.specs.Scan.{some_quotes, triple_at}
use Rattle.nano_toml.specs.Token.{prefix, following, string, word_token, begins, nan, infinity}
use Rattle.nano_toml.specs.Cut.{punctuator_token}
use Rattle.nano_toml.specs.Reading.{a_token, the_end}
use Rattle.nano_toml.proofs.Places.{after_stops}

above : (n k : ℕ) → k < n → nat_le n k ≡ false
above n k h = elim (leb_tells n k) [ inl e ↦ absurd (omega arith) | inr e ↦ e.0 ]

upto : (k n : ℕ) → k ≤ n → nat_le k n ≡ true
upto k n h = elim (leb_tells k n) [ inl e ↦ e.0 | inr e ↦ absurd (omega arith) ]

other : (n k : ℕ) → 128 ≤ n → k < 128 → eqb n k ≡ false
other n k h l = ne_eqb n k (λ e. omega arith)

digit_beyond : (n : ℕ) → 128 ≤ n → is_digit n ≡ false
digit_beyond n h = rw (upto 48 n (omega arith), above n 57 (omega arith)) refl

start_beyond : (n : ℕ) → 128 ≤ n → starts_word n ≡ false
start_beyond n h =
    rw (upto 65 n (omega arith), above n 90 (omega arith), upto 97 n (omega arith), above n 122 (omega arith), other n 95 h (omega arith)) refl

pub char_test : (k : ℕ) → k ≢ 0 → k < 128 → IsByteTest (λ c. c == k)
char_test k some ascii = (ne_eqb 0 k (λ e. some (sym e)), λ n h. other n k h ascii ∙ sym (other 128 k (omega arith) ascii))

pub plain_test : IsByteTest is_plain
plain_test = (refl, λ n h. rw (other n 34 h (omega arith), other n 92 h (omega arith), other n 0 h (omega arith)) refl)

pub line_test : IsByteTest is_in_line
line_test = (refl, λ n h. rw (other n 10 h (omega arith), other n 0 h (omega arith)) refl)

pub space_test : IsByteTest is_space
space_test = (refl, λ n h. rw (other n 10 h (omega arith), other n 13 h (omega arith), other n 9 h (omega arith), other n 32 h (omega arith)) refl)

pub sign_test : IsByteTest is_sign
sign_test = (refl, λ n h. rw (other n 43 h (omega arith), other n 45 h (omega arith)) refl)

pub start_test : IsByteTest starts_word
start_test = (refl, λ n h. start_beyond n h)

pub word_test : IsByteTest is_in_word
word_test = (refl, λ n h. rw (start_beyond n h, other n 45 h (omega arith), other n 46 h (omega arith)) refl)

pub number_test : IsByteTest starts_number
number_test = (refl, λ n h. rw (other n 43 h (omega arith), other n 45 h (omega arith), digit_beyond n h) refl)

pub digits_test : IsByteTest is_in_digits
digits_test = (refl, λ n h. rw (digit_beyond n h, other n 95 h (omega arith)) refl)

pub date_test : IsByteTest is_in_date
date_test = (refl, λ n h. rw (digit_beyond n h, other n 58 h (omega arith), other n 45 h (omega arith), other n 84 h (omega arith)) refl)

pub quote_test : IsByteTest is_quote
quote_test = (refl, λ n h. other n 34 h (omega arith))

pub some_test : IsByteTest (λ c. not (c == 0))
some_test = (refl, λ n h. rw (other n 0 h (omega arith)) refl)

pub comment_test : IsByteTest (λ c. c == 35)
comment_test = (refl, λ n h. other n 35 h (omega arith))

pub minus_test : IsByteTest (λ c. c == 45)
minus_test = (refl, λ n h. other n 45 h (omega arith))

pub backslash_test : IsByteTest (λ c. c == 92)
backslash_test = (refl, λ n h. other n 92 h (omega arith))

pub n_test : IsByteTest (λ c. c == 110)
n_test = (refl, λ n h. other n 110 h (omega arith))

pub i_test : IsByteTest (λ c. c == 105)
i_test = (refl, λ n h. other n 105 h (omega arith))

pub comma_test : IsByteTest (λ c. c == 44)
comma_test = (refl, λ n h. other n 44 h (omega arith))

pub open_test : IsByteTest (λ c. c == 91)
open_test = (refl, λ n h. other n 91 h (omega arith))

pub close_test : IsByteTest (λ c. c == 93)
close_test = (refl, λ n h. other n 93 h (omega arith))

pub equals_test : IsByteTest (λ c. c == 61)
equals_test = (refl, λ n h. other n 61 h (omega arith))

-- ==== scans

-- the lexeme at the start of the text
abbrev pub lexeme_at : List ℕ → Option Taken
lexeme_at [] = None
lexeme_at (c ∷ cs) =
    if starts_word c
    then taken (word_token (prefix is_in_word (c ∷ cs))) (following is_in_word (c ∷ cs))
    else if starts_number c then number_at (c ∷ cs)
    else if is_quote c
    then option_map (λ s. record { next = a_token (string s.bytes); rest = s.rest })
    (after_one_quote cs)
    else option_map (λ token. record { next = a_token token; rest = cs }) (punctuator_token c)

-- at the end of the text, or at a lexeme
abbrev pub next_after_gaps : List ℕ → Option Taken
next_after_gaps [] = Some (record { next = the_end; rest = [] })
next_after_gaps (c ∷ cs) = lexeme_at (c ∷ cs)

abbrev pub next_at : List ℕ → Option Taken
next_at text = next_after_gaps (after_gaps false text)

-- ==== signs

pub past_sign : (text now : List ℕ) (minus : Bool) → minus ≡ begins (λ c. c == 45) text → now ≡ (if begins is_sign text then tail text else text) → number_at text ≡ after_sign minus now
past_sign text now minus m n = rw (m, n) refl

pub at_nan : (minus : Bool) (text : List ℕ) → begins (λ c. c == 110) text ≡ true → after_sign minus text ≡ word_at (nan minus) (110 ∷ (97 ∷ (110 ∷ []))) text
at_nan minus text n = rw n refl

pub at_infinity : (minus : Bool) (text : List ℕ) → begins (λ c. c == 110) text ≡ false → begins (λ c. c == 105) text ≡ true → after_sign minus text ≡ word_at (infinity minus) (105 ∷ (110 ∷ (102 ∷ []))) text
at_infinity minus text n i = rw (n, i) refl

pub at_digits : (minus : Bool) (text : List ℕ) → begins (λ c. c == 110) text ≡ false → begins (λ c. c == 105) text ≡ false → after_sign minus text ≡ after_digits minus (prefix is_in_digits text) (following is_in_digits text)
at_digits minus text n i = rw (n, i) refl

-- ==== quotes

-- a run is taken whole
pub run_gathered : (bytes run text : List ℕ) → triple_at bytes (some_quotes run) text ≡ triple_at bytes (some_quotes (run ++ prefix is_quote text)) (following is_quote text)
run_gathered bytes run [] = ap (λ (r : List ℕ). triple_at bytes (some_quotes r) []) (sym (append-nil run))
run_gathered bytes run (c ∷ cs) = elim (c == 34) as (λ (b : Bool). (c == 34) ≡ b → triple_at bytes (some_quotes run) (c ∷ cs) ≡ triple_at bytes (some_quotes (run ++ cond b (c ∷ prefix is_quote cs) [])) (cond b (following is_quote cs) (c ∷ cs))) [
  | true ↦ λ e. rw e (run_gathered bytes (run ++ c ∷ []) cs ∙ ap (λ (r : List ℕ). triple_at bytes (some_quotes r) (following is_quote cs)) (append_assoc run (c ∷ []) (prefix is_quote cs)))
  | false ↦ λ e. ap (λ (r : List ℕ). triple_at bytes (some_quotes r) (c ∷ cs)) (sym (append-nil run))
] refl

-- a run of other than three quotes is content
pub run_settled : (bytes run text : List ℕ) → begins is_quote text ≡ false → (length run == 3) ≡ false → triple_at bytes (some_quotes run) text ≡ triple_at (bytes ++ run) (some_quotes []) text
run_settled bytes run [] e h = rw h refl
run_settled bytes run (c ∷ cs) e h = rw (e, h, append-nil (bytes ++ run)) refl

pub run_is_content : (bytes text : List ℕ) → (length (prefix is_quote text) == 3) ≡ false → triple_at (bytes ++ prefix is_quote text) (some_quotes []) (following is_quote text) ≡ triple_at bytes (some_quotes []) text
run_is_content bytes text h = sym (run_gathered bytes [] text ∙ run_settled bytes (prefix is_quote text) (following is_quote text) (after_stops is_quote text) h)

-- a run of three quotes ends the string
pub run_ended : (bytes run text : List ℕ) → begins is_quote text ≡ false → (length run == 3) ≡ true → triple_at bytes (some_quotes run) text ≡ Some (record { bytes = bytes; rest = text })
run_ended bytes run [] e h = rw h refl
run_ended bytes run (c ∷ cs) e h = rw (e, h) refl

pub run_closes : (bytes text : List ℕ) → (length (prefix is_quote text) == 3) ≡ true → triple_at bytes (some_quotes []) text ≡ Some (record { bytes = bytes; rest = following is_quote text })
run_closes bytes text h = run_gathered bytes [] text ∙ run_ended bytes (prefix is_quote text) (following is_quote text) (after_stops is_quote text) h

pub after_three_quotes : (text two three bytes : List ℕ) (content : Option Content) → true ≡ begins is_quote text → two ≡ tail text → true ≡ begins is_quote two → three ≡ tail two
    → bytes ≡ [] → triple_at bytes (some_quotes []) three ≡ content → after_one_quote text ≡ content
after_three_quotes text two three bytes content q t r u b h = rw (sym q, sym t, sym r, sym u) (ap (λ (bs : List ℕ). triple_at bs (some_quotes []) three) (sym b) ∙ h)
