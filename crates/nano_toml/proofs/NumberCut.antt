-- Numbers, and how they are scanned: one is the other.
use Rattle.std.proofs.Common.{◌≡◌, ℕ, ◌<◌, List, [], ◌∷◌, ◌++◌, length, length-append, Bool, true}
use Rattle.std.proofs.Common.{false, cond, ◌==◌, ◌||◌, Option, Some, None, option_map, refl, ap}
use Rattle.std.proofs.Common.{sym, ◌∙◌, subst, inl, inr, append_assoc, true≢false, arith}
use Rattle.std.proofs.lemmas.Bool.Decides.{eqb_tells}
use Rattle.std.proofs.Math.Bool.{or-true}
use Rattle.nano_toml.specs.Characters.{is_sign, is_digit, starts_number, is_in_digits, is_in_date}
use Rattle.nano_toml.specs.Characters.{goes_on_integer, Each}
use Rattle.nano_toml.specs.Token.{begins, prefix, following, Token, decimal, nan, infinity, date}
use Rattle.nano_toml.specs.Reading.{Next, a_token}
use Rattle.nano_toml.specs.Number.{Body, is_nan, is_infinity, is_decimal, is_date, is_integer}
use Rattle.nano_toml.specs.Number.{body_text, digits, value, IsBody, goes_on, unchanged_sign}
use Rattle.nano_toml.specs.Number.{body_token, sign_text, is_minus, SignFits, IsNumber}
use Rattle.nano_toml.specs.Scan.{Taken, taken, any_digit, fitting, integer_from, integer_at}
use Rattle.nano_toml.specs.Scan.{decimal_at, date_at, after_digits, after_word, after_sign}
use Rattle.nano_toml.specs.Scan.{number_at}
use Rattle.nano_toml.proofs.Places.{prefix_again, after_again, span_split, after_stops}
use Rattle.nano_toml.proofs.Places.{prefix_passes}
use Rattle.nano_toml.proofs.ByteTests.{at_digits, at_nan, at_infinity, past_sign}
use Rattle.nano_toml.proofs.IntegerCut.{any_if_some, some_if_any, both_any, both_some}
use Rattle.nano_toml.proofs.IntegerCut.{integer_in_range, integer_of}

-- ---- a body is scanned

-- digits and what may come after them begin with no letter
pub no_letter : (letter d : ℕ) (run rest : List ℕ) → is_in_digits letter ≡ false → (d == letter) ≡ false → Each is_in_digits run → begins (λ c. c == letter) (run ++ d ∷ rest) ≡ false
no_letter letter d [] rest n e h = e
no_letter letter d (c ∷ cs) rest n e h = elim (eqb_tells c letter) [ inl s ↦ absurd (true≢false (sym h.0 ∙ (ap is_in_digits s.1 ∙ n))) | inr s ↦ s.0 ]

no_letter_alone : (letter : ℕ) (run rest : List ℕ) → is_in_digits letter ≡ false → 0 < length run → Each is_in_digits run → begins (λ c. c == letter) (run ++ rest) ≡ false
no_letter_alone letter [] rest n s h = absurd (omega (arith, s))
no_letter_alone letter (c ∷ cs) rest n s h = elim (eqb_tells c letter) [ inl e ↦ absurd (true≢false (sym h.0 ∙ (ap is_in_digits e.1 ∙ n))) | inr e ↦ e.0 ]

-- a run with a digit is not empty
has_length : (run : List ℕ) → 0 < length (digits run) → 0 < length run
has_length [] h = h
has_length (c ∷ cs) h = omega arith

goes_on_digits : (c : ℕ) → goes_on_integer c ≡ false → is_in_digits c ≡ false
goes_on_digits c h = elim (is_in_digits c) as (λ (b : Bool). b || ((c == 46) || (c == 45)) ≡ false → b ≡ false) [ true ↦ λ e. e | false ↦ λ e. refl ] h

goes_on_point : (c : ℕ) → goes_on_integer c ≡ false → (c == 46) ≡ false
goes_on_point c h = elim (c == 46) as (λ (b : Bool). is_in_digits c || (b || (c == 45)) ≡ false → b ≡ false) [ true ↦ λ e. sym (or-true (is_in_digits c)) ∙ e | false ↦ λ e. refl ] h

goes_on_minus : (c : ℕ) → goes_on_integer c ≡ false → (c == 45) ≡ false
goes_on_minus c h = elim (c == 45) as (λ (b : Bool). is_in_digits c || ((c == 46) || b) ≡ false → b ≡ false) [ true ↦ λ e. sym (ap (λ (x : Bool). is_in_digits c || x) (or-true (c == 46)) ∙ or-true (is_in_digits c)) ∙ e | false ↦ λ e. refl ] h

stops_digits : (rest : List ℕ) → begins goes_on_integer rest ≡ false → begins is_in_digits rest ≡ false
stops_digits [] h = refl
stops_digits (c ∷ cs) h = goes_on_digits c h

pub integer_ends : (minus : Bool) (whole rest : List ℕ) → begins goes_on_integer rest ≡ false → after_digits minus whole rest ≡ integer_at minus whole rest
integer_ends minus whole [] h = refl
integer_ends minus whole (c ∷ cs) h = rw (goes_on_point c h, goes_on_minus c h) refl

decimal_scanned : (minus : Bool) (whole part rest : List ℕ) → IsBody minus (is_decimal whole part) → begins is_in_digits rest ≡ false → decimal_at minus whole (part ++ rest) ≡ taken (body_token minus (is_decimal whole part)) rest
decimal_scanned minus whole part rest h e =
    rw (prefix_again is_in_digits part rest h.1 e, after_again is_in_digits part rest h.1 e, both_any whole part h.2)
    (ap (λ (t : List ℕ). taken (decimal t) rest) (append_assoc (unchanged_sign minus) (digits whole) (46 ∷ digits part)))

date_scanned : (minus : Bool) (first more rest : List ℕ) → IsBody minus (is_date first more) → begins is_in_date rest ≡ false → date_at minus first (more ++ rest) ≡ taken (body_token minus (is_date first more)) rest
date_scanned minus first more rest h e =
    rw (prefix_again is_in_date more rest h.1 e, after_again is_in_date more rest h.1 e)
    (ap (λ (t : List ℕ). taken (date t) rest) (append_assoc (unchanged_sign minus) (digits first) (45 ∷ more)))

-- digits, and a character that stops them
after_run : (minus : Bool) (run : List ℕ) (d : ℕ) (rest : List ℕ) → Each is_in_digits run → is_in_digits d ≡ false → (d == 110) ≡ false → (d == 105) ≡ false → after_sign minus (run ++ d ∷ rest) ≡ after_digits minus run (d ∷ rest)
after_run minus run d rest h e n i =
    at_digits minus (run ++ d ∷ rest) (no_letter 110 d run rest refl n h) (no_letter 105 d run rest refl i h)
    ∙ (ap (λ (w : List ℕ). after_digits minus w (following is_in_digits (run ++ d ∷ rest))) (prefix_again is_in_digits run (d ∷ rest) h e)
    ∙ ap (λ (t : List ℕ). after_digits minus run t) (after_again is_in_digits run (d ∷ rest) h e))

pub body_scanned : (minus : Bool) (body : Body) (rest : List ℕ) → IsBody minus body → begins (goes_on body) rest ≡ false → after_sign minus (body_text body ++ rest) ≡ taken (body_token minus body) rest
body_scanned minus is_nan rest h e = refl
body_scanned minus is_infinity rest h e = refl
body_scanned minus (is_decimal whole part) rest h e =
    ap (λ (t : List ℕ). after_sign minus t) (append_assoc whole (46 ∷ part) rest)
    ∙ (after_run minus whole 46 (part ++ rest) h.0 refl refl refl ∙ decimal_scanned minus whole part rest h e)
body_scanned minus (is_date first more) rest h e =
    ap (λ (t : List ℕ). after_sign minus t) (append_assoc first (45 ∷ more) rest)
    ∙ (after_run minus first 45 (more ++ rest) h.0 refl refl refl ∙ date_scanned minus first more rest h e)
body_scanned minus (is_integer whole) rest h e =
    let some = has_length whole h.1 in
    at_digits minus (whole ++ rest) (no_letter_alone 110 whole rest refl some h.0) (no_letter_alone 105 whole rest refl some h.0)
    ∙ (ap (λ (w : List ℕ). after_digits minus w (following is_in_digits (whole ++ rest))) (prefix_again is_in_digits whole rest h.0 (stops_digits rest e))
    ∙ (ap (λ (t : List ℕ). after_digits minus whole t) (after_again is_in_digits whole rest h.0 (stops_digits rest e))
    ∙ (integer_ends minus whole rest e
    ∙ (ap (λ (b : Bool). option_map (λ next. record { next = next; rest = rest }) (integer_from minus b (fitting (value whole)))) (any_if_some whole h.1)
    ∙ ap (λ (n : Option Next). option_map (λ next. record { next = next; rest = rest }) n) (integer_in_range minus (value whole) h.2)))))

-- ---- what is scanned is a body

never : (text : List ℕ) → begins (λ c. false) text ≡ false
never [] = refl
never (c ∷ cs) = refl

pub same_taken : {x y : Taken} → Some x ≡ Some y → x ≡ y
same_taken e = cc e

pub record BodyAt (minus : Bool) (text : List ℕ) (got : Taken) : Type 0 where
  pub body : Body
  pub good : IsBody minus body
  pub is : got.next ≡ a_token (body_token minus body)
  pub split : text ≡ body_text body ++ got.rest
  pub ends : begins (goes_on body) got.rest ≡ false

word_split : (word text rest : List ℕ) → after_word word text ≡ Some rest → text ≡ word ++ rest
word_split [] text rest h = cc h
word_split (w ∷ ws) [] rest h = cc h
word_split (w ∷ ws) (c ∷ cs) rest h = elim (eqb_tells c w) [
  | inl e ↦ ap (λ (d : ℕ). d ∷ cs) e.1 ∙ ap (λ (t : List ℕ). w ∷ t) (word_split ws cs rest (rw e.0 at h))
  | inr e ↦ let none = rw e.0 at h in cc none
]

word_taken : (token : Token) (word text : List ℕ) (got : Taken) (o : Option (List ℕ)) → after_word word text ≡ o → option_map (λ rest. record { next = a_token token; rest = rest }) o ≡ Some got → (got.next ≡ a_token token) × (text ≡ word ++ got.rest)
word_taken token word text got None e h = cc h
word_taken token word text got (Some rest) e h =
    let same : record { next = a_token token; rest = rest } ≡ got = same_taken h in
    (ap (λ (x : Taken). x.next) (sym same), word_split word text rest e ∙ ap (λ (x : Taken). word ++ x.rest) same)

integer_taken : (minus : Bool) (whole rest : List ℕ) (got : Taken) (o : Option Next) → Each is_in_digits whole → begins goes_on_integer rest ≡ false → integer_from minus (any_digit whole) (fitting (value whole)) ≡ o
    → option_map (λ next. record { next = next; rest = rest }) o ≡ Some got → BodyAt minus (whole ++ rest) got
integer_taken minus whole rest got None each e k h = cc h
integer_taken minus whole rest got (Some next) each e k h =
    let same : record { next = next; rest = rest } ≡ got = same_taken h in
    let i = integer_of minus (any_digit whole) (value whole) next k in
    record {
      body = is_integer whole;
      good = (each, some_if_any whole i.some, i.range);
      is = ap (λ (x : Taken). x.next) (sym same) ∙ i.is;
      split = ap (λ (x : Taken). whole ++ x.rest) same;
      ends = ap (λ (x : Taken). begins goes_on_integer x.rest) (sym same) ∙ e;
    }

decimal_taken : (minus : Bool) (whole text : List ℕ) (got : Taken) (b : Bool) → Each is_in_digits whole → any_digit whole || any_digit (prefix is_in_digits text) ≡ b
    → cond b (taken (decimal ((unchanged_sign minus ++ digits whole) ++ (46 ∷ digits (prefix is_in_digits text)))) (following is_in_digits text)) None ≡ Some got → BodyAt minus (whole ++ 46 ∷ text) got
decimal_taken minus whole text got false each e h = cc h
decimal_taken minus whole text got true each e h =
    let part = prefix is_in_digits text in
    let same : record { next = a_token (decimal ((unchanged_sign minus ++ digits whole) ++ (46 ∷ digits (prefix is_in_digits text)))); rest = following is_in_digits text } ≡ got = same_taken h in
    record {
      body = is_decimal whole (prefix is_in_digits text);
      good = (each, prefix_passes is_in_digits text, both_some whole (prefix is_in_digits text) e);
      is = ap (λ (x : Taken). x.next) (sym same) ∙ ap (λ (t : List ℕ). a_token (decimal t)) (append_assoc (unchanged_sign minus) (digits whole) (46 ∷ digits (prefix is_in_digits text)));
      split = ap (λ (t : List ℕ). whole ++ 46 ∷ t) (span_split is_in_digits text) ∙ (sym (append_assoc whole (46 ∷ prefix is_in_digits text) (following is_in_digits text))
          ∙ ap (λ (x : Taken). (whole ++ 46 ∷ prefix is_in_digits text) ++ x.rest) same);
      ends = ap (λ (x : Taken). begins is_in_digits x.rest) (sym same) ∙ after_stops is_in_digits text;
    }

date_taken : (minus : Bool) (first text : List ℕ) (got : Taken) → Each is_in_digits first → date_at minus first text ≡ Some got → BodyAt minus (first ++ 45 ∷ text) got
date_taken minus first text got each h =
    let same : record { next = a_token (date ((unchanged_sign minus ++ digits first) ++ (45 ∷ prefix is_in_date text))); rest = following is_in_date text } ≡ got = same_taken h in
    record {
      body = is_date first (prefix is_in_date text);
      good = (each, prefix_passes is_in_date text);
      is = ap (λ (x : Taken). x.next) (sym same) ∙ ap (λ (t : List ℕ). a_token (date t)) (append_assoc (unchanged_sign minus) (digits first) (45 ∷ prefix is_in_date text));
      split = ap (λ (t : List ℕ). first ++ 45 ∷ t) (span_split is_in_date text) ∙ (sym (append_assoc first (45 ∷ prefix is_in_date text) (following is_in_date text))
          ∙ ap (λ (x : Taken). (first ++ 45 ∷ prefix is_in_date text) ++ x.rest) same);
      ends = ap (λ (x : Taken). begins is_in_date x.rest) (sym same) ∙ after_stops is_in_date text;
    }

digits_taken : (minus : Bool) (whole rest : List ℕ) (got : Taken) → Each is_in_digits whole → begins is_in_digits rest ≡ false → after_digits minus whole rest ≡ Some got → BodyAt minus (whole ++ rest) got
digits_taken minus whole [] got each e h = integer_taken minus whole [] got (integer_from minus (any_digit whole) (fitting (value whole))) each refl refl h
digits_taken minus whole (c ∷ cs) got each e h = elim (eqb_tells c 46) [
  | inl p ↦
      subst (λ (d : ℕ). BodyAt minus (whole ++ d ∷ cs) got) (sym p.1)
      (decimal_taken minus whole cs got (any_digit whole || any_digit (prefix is_in_digits cs)) each refl (rw p.0 at h))
  | inr p ↦
      let other = rw p.0 at h in
      elim (eqb_tells c 45) [
        | inl m ↦ subst (λ (d : ℕ). BodyAt minus (whole ++ d ∷ cs) got) (sym m.1) (date_taken minus whole cs got each (rw m.0 at other))
        | inr m ↦
            let stop : goes_on_integer c ≡ false = rw (e, p.0, m.0) refl in
            integer_taken minus whole (c ∷ cs) got (integer_from minus (any_digit whole) (fitting (value whole))) each stop refl (rw m.0 at other)
      ]
]

scanned_digits : (minus : Bool) (text : List ℕ) (got : Taken) → after_digits minus (prefix is_in_digits text) (following is_in_digits text) ≡ Some got → BodyAt minus text got
scanned_digits minus text got h =
    subst (λ (t : List ℕ). BodyAt minus t got) (sym (span_split is_in_digits text))
    (digits_taken minus (prefix is_in_digits text) (following is_in_digits text) got (prefix_passes is_in_digits text) (after_stops is_in_digits text) h)

pub scanned_body : (minus : Bool) (text : List ℕ) (got : Taken) (n i : Bool) → begins (λ c. c == 110) text ≡ n → begins (λ c. c == 105) text ≡ i → after_sign minus text ≡ Some got → BodyAt minus text got
scanned_body minus text got true i n e h =
    let w = word_taken (nan minus) (110 ∷ (97 ∷ (110 ∷ []))) text got (after_word (110 ∷ (97 ∷ (110 ∷ []))) text) refl (sym (at_nan minus text n) ∙ h) in
    record { body = is_nan; good = tt; is = w.0; split = w.1; ends = never got.rest }
scanned_body minus text got false true n e h =
    let w = word_taken (infinity minus) (105 ∷ (110 ∷ (102 ∷ []))) text got (after_word (105 ∷ (110 ∷ (102 ∷ []))) text) refl (sym (at_infinity minus text n e) ∙ h) in
    record { body = is_infinity; good = tt; is = w.0; split = w.1; ends = never got.rest }
scanned_body minus text got false false n e h = scanned_digits minus text got (sym (at_digits minus text n e) ∙ h)

-- ---- a number

digit_no_sign : (c : ℕ) → is_digit c ≡ true → is_sign c ≡ false
digit_no_sign c h = elim (eqb_tells c 43) [
  | inl e ↦ absurd (true≢false (sym h ∙ ap is_digit e.1))
  | inr e ↦ elim (eqb_tells c 45) [
    | inl m ↦ absurd (true≢false (sym h ∙ ap is_digit m.1))
    | inr m ↦ rw (e.0, m.0) refl
  ]
]

sign_no_minus : (c : ℕ) → is_sign c ≡ false → (c == 45) ≡ false
sign_no_minus c h = elim (c == 43) as (λ (b : Bool). b || (c == 45) ≡ false → (c == 45) ≡ false) [ true ↦ λ e. cc e | false ↦ λ e. e ] h

digit_begins : (text : List ℕ) → begins is_digit text ≡ true → (begins is_sign text ≡ false) × (begins (λ c. c == 45) text ≡ false) × (begins starts_number text ≡ true)
digit_begins [] h = cc h
digit_begins (c ∷ cs) h = (digit_no_sign c h, sign_no_minus c (digit_no_sign c h), rw h (or-true (is_sign c)))

begins_append : (p : ℕ → Bool) (xs ys : List ℕ) → begins p xs ≡ true → begins p (xs ++ ys) ≡ true
begins_append p [] ys h = cc h
begins_append p (x ∷ xs) ys h = h

number_from : (sign : Option ℕ) (body : Body) (rest : List ℕ) → SignFits sign (body_text body) → IsBody (is_minus sign) body → begins (goes_on body) rest ≡ false
    → (number_at (sign_text sign ++ (body_text body ++ rest)) ≡ taken (body_token (is_minus sign) body) rest) × (begins starts_number (sign_text sign ++ (body_text body ++ rest)) ≡ true)
number_from None body rest f g e =
    let text = body_text body ++ rest in
    let d = digit_begins (body_text body ++ rest) (begins_append is_digit (body_text body) rest f) in
    (past_sign (body_text body ++ rest) (body_text body ++ rest) false (sym d.1) (rw d.0 refl) ∙ body_scanned false body rest g e, d.2)
number_from (Some c) body rest f g e =
    (past_sign (c ∷ (body_text body ++ rest)) (body_text body ++ rest) (c == 45) refl (rw f refl) ∙ body_scanned (c == 45) body rest g e, rw f refl)

pub number_scanned : (text rest : List ℕ) (token : Token) → IsNumber text token rest → (number_at text ≡ taken token rest) × (begins starts_number text ≡ true)
number_scanned text rest token h =
    let r = number_from h.sign h.body rest h.fits h.good h.ends in
    (ap number_at h.split ∙ (r.0 ∙ ap (λ (t : Token). taken t rest) (sym h.is)), ap (λ (t : List ℕ). begins starts_number t) h.split ∙ r.1)

-- a body has a character
pub body_some : (minus : Bool) (body : Body) → IsBody minus body → 0 < length (body_text body)
body_some minus is_nan h = omega arith
body_some minus is_infinity h = omega arith
body_some minus (is_decimal whole part) h = omega (arith, length-append whole (46 ∷ part))
body_some minus (is_date first more) h = omega (arith, length-append first (45 ∷ more))
body_some minus (is_integer whole) h = has_length whole h.1

first_begins : (p : ℕ → Bool) (xs ys cs : List ℕ) (c : ℕ) → 0 < length xs → c ∷ cs ≡ xs ++ ys → begins p xs ≡ p c
first_begins p [] ys cs c n h = absurd (omega (arith, n))
first_begins p (x ∷ xs) ys cs c n h = let same : x ≡ c = cc h in ap p same

abbrev pub NumberAt : List ℕ → Taken → Type 0
NumberAt text got = (token : Token) × (got.next ≡ a_token token) × IsNumber text token got.rest

signed_number : (c : ℕ) (cs : List ℕ) (got : Taken) → is_sign c ≡ true → BodyAt (c == 45) cs got → NumberAt (c ∷ cs) got
signed_number c cs got s h = (body_token (c == 45) h.body, h.is, record { sign = Some c; body = h.body; fits = s; good = h.good; is = refl; split = ap (λ (t : List ℕ). c ∷ t) h.split; ends = h.ends })

bare_number : (c : ℕ) (cs : List ℕ) (got : Taken) → is_digit c ≡ true → BodyAt false (c ∷ cs) got → NumberAt (c ∷ cs) got
bare_number c cs got d h = (
  body_token false h.body,
  h.is,
  record {
    sign = None;
    body = h.body;
    fits = first_begins is_digit (body_text h.body) got.rest cs c (body_some false h.body h.good) h.split ∙ d;
    good = h.good;
    is = refl;
    split = h.split;
    ends = h.ends;
  },
)

pub scanned_number : (c : ℕ) (cs : List ℕ) (got : Taken) (s : Bool) → is_sign c ≡ s → starts_number c ≡ true → number_at (c ∷ cs) ≡ Some got → NumberAt (c ∷ cs) got
scanned_number c cs got true s h k = signed_number c cs got s (scanned_body (c == 45) cs got (begins (λ d. d == 110) cs) (begins (λ d. d == 105) cs) refl refl (sym (past_sign (c ∷ cs) cs (c == 45) refl (rw s refl)) ∙ k))
scanned_number c cs got false s h k =
    let digit : is_digit c ≡ true = rw s at h in
    bare_number c cs got digit (scanned_body false (c ∷ cs) got (c == 110) (c == 105) refl refl (sym (past_sign (c ∷ cs) (c ∷ cs) false (sym (sign_no_minus c s)) (rw s refl)) ∙ k))
