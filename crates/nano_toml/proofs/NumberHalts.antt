-- Where the scan of a number stops that is none: what was taken can be gone on with to a number,
-- and with the next character it can't.
use Rattle.std.proofs.Common.{◌≡◌, ℕ, List, [], ◌∷◌, ◌++◌, Bool, true, false, cond, ◌==◌, ◌||◌}
use Rattle.std.proofs.Common.{Option, Some, None, option_map, refl, ap, sym, ◌∙◌, subst}
use Rattle.std.proofs.Common.{append_assoc, append-nil, arith, inl, inr, codes}
use Rattle.std.proofs.Math.Bool.{or-true}
use Rattle.std.proofs.lemmas.Bool.Decides.{eqb_tells, nat_tests}
use Rattle.nano_toml.specs.Characters.{is_sign, is_digit, starts_number, is_in_digits, Each}
use Rattle.nano_toml.specs.Number.{digits, value, unchanged_sign}
use Rattle.nano_toml.specs.Place.{point_remaining, word_remaining, unsigned_remaining, number_remaining}
use Rattle.nano_toml.specs.Scan.{Taken, taken, any_digit, fitting, integer_from, integer_at, decimal_at}
use Rattle.nano_toml.specs.Scan.{after_digits, number_from, after_word, word_at, after_sign, number_at}
use Rattle.nano_toml.specs.Token.{begins, prefix, following, Token, nan, infinity, decimal}
use Rattle.nano_toml.specs.Reading.{Next, a_token}
use Rattle.nano_toml.proofs.NumberCut.{no_letter}
use Rattle.nano_toml.proofs.Places.{prefix_again, after_again, span_split, after_stops, prefix_passes}

-- the scan stops before what remains
pub record Halts (scan : List ℕ → Option Taken) (text remaining : List ℕ) : Type 0 where
  pub prefix : List ℕ
  pub split : text ≡ prefix ++ remaining
  pub more : List ℕ
  pub next : Next
  pub whole : scan (prefix ++ more) ≡ Some (record { next = next; rest = [] })
  pub breaks : (c : ℕ) (cs after : List ℕ) → remaining ≡ c ∷ cs → scan (prefix ++ c ∷ after) ≡ None
  -- where a digit stands first, it was taken
  pub digit : begins is_digit text ≡ true → begins is_digit prefix ≡ true

-- the first character of what was taken, or of what stands after it
same_first : (p : ℕ → Bool) (prefix after cs : List ℕ) (c : ℕ) → begins p (prefix ++ c ∷ after) ≡ begins p (prefix ++ c ∷ cs)
same_first p [] after cs c = refl
same_first p (d ∷ ds) after cs c = refl

pub first_unchanged : (p : ℕ → Bool) (prefix more : List ℕ) → begins p prefix ≡ true → begins p (prefix ++ more) ≡ true
first_unchanged p [] more h = cc h
first_unchanged p (c ∷ cs) more h = h

-- ---- words

pub record WordHalts (word text remaining : List ℕ) : Type 0 where
  pub prefix : List ℕ
  pub more : List ℕ
  pub split : text ≡ prefix ++ remaining
  pub whole : word ≡ prefix ++ more
  pub breaks : (c : ℕ) (cs after : List ℕ) → remaining ≡ c ∷ cs → after_word word (prefix ++ c ∷ after) ≡ None

word_halts : (word text : List ℕ) → after_word word text ≡ None → WordHalts word text (word_remaining word text)
word_halts [] text h = cc h
word_halts (w ∷ ws) [] h = record { prefix = []; more = w ∷ ws; split = refl; whole = refl; breaks = λ c cs after e. cc e }
word_halts (w ∷ ws) (d ∷ ds) h = elim (eqb_tells d w) [
  | inl e ↦
      let on = word_halts ws ds (rw e.0 at h) in
      rw e.0 (record {
        prefix = d ∷ on.prefix;
        more = on.more;
        split = ap (λ (t : List ℕ). d ∷ t) on.split;
        whole = ap (λ (c : ℕ). c ∷ ws) (sym e.1) ∙ ap (λ (t : List ℕ). d ∷ t) on.whole;
        breaks = λ c cs after r. rw e.0 (on.breaks c cs after r);
      })
  | inr e ↦ rw e.0 (record {
    prefix = [];
    more = w ∷ ws;
    split = refl;
    whole = refl;
    breaks = λ c cs after r. let same : d ≡ c = cc r in subst (λ (x : ℕ). cond (x == w) (after_word ws after) None ≡ None) same (rw e.0 refl);
  })
]

word_whole : (word : List ℕ) → after_word word word ≡ Some []
word_whole [] = refl
word_whole (w ∷ ws) = elim (eqb_tells w w) [ inl e ↦ rw e.0 (word_whole ws) | inr e ↦ absurd (e.1 refl) ]

abbrev WordTaken : Token → Option (List ℕ) → Option Taken
WordTaken token found = option_map (λ rest. record { next = a_token token; rest = rest }) found

no_word_at : (token : Token) (found : Option (List ℕ)) → WordTaken token found ≡ None → found ≡ None
no_word_at token None h = refl
no_word_at token (Some rest) h = cc h

-- ---- digits

-- one more digit is a digit
more_digit : (run : List ℕ) → any_digit (run ++ 53 ∷ []) ≡ true
more_digit [] = refl
more_digit (c ∷ cs) = ap (λ (b : Bool). is_digit c || b) (more_digit cs) ∙ or-true (is_digit c)

each_more : (run : List ℕ) → Each is_in_digits run → Each is_in_digits (run ++ 53 ∷ [])
each_more [] h = (refl, tt)
each_more (c ∷ cs) h = (h.0, each_more cs h.1)

-- a run of digits, and what stands after it
at_run : (minus : Bool) (run rest : List ℕ) → Each is_in_digits run → begins is_in_digits rest ≡ false → number_from minus (run ++ rest) ≡ after_digits minus run rest
at_run minus run rest h e = rw (prefix_again is_in_digits run rest h e, after_again is_in_digits run rest h e) refl

decimal_whole : (minus : Bool) (run part : List ℕ) → Each is_in_digits part
    → decimal_at minus run (part ++ 53 ∷ []) ≡ taken (decimal ((unchanged_sign minus ++ digits run) ++ (46 ∷ digits (part ++ 53 ∷ [])))) []
decimal_whole minus run part h =
    let all = each_more part h in
    let f : prefix is_in_digits (part ++ 53 ∷ []) ≡ part ++ 53 ∷ [] = ap (prefix is_in_digits) (sym (append-nil (part ++ 53 ∷ []))) ∙ prefix_again is_in_digits (part ++ 53 ∷ []) [] all refl in
    let b : following is_in_digits (part ++ 53 ∷ []) ≡ [] = ap (following is_in_digits) (sym (append-nil (part ++ 53 ∷ []))) ∙ after_again is_in_digits (part ++ 53 ∷ []) [] all refl in
    let any : any_digit run || any_digit (part ++ 53 ∷ []) ≡ true = ap (λ (x : Bool). any_digit run || x) (more_digit part) ∙ or-true (any_digit run) in
    rw (f, b, any) refl

no_decimal : (minus : Bool) (run part rest : List ℕ) → Each is_in_digits part → begins is_in_digits rest ≡ false → any_digit run || any_digit part ≡ false → decimal_at minus run (part ++ rest) ≡ None
no_decimal minus run part rest h e none = rw (prefix_again is_in_digits part rest h e, none) refl

rejected_decimal : (minus : Bool) (run text : List ℕ) → decimal_at minus run text ≡ None → any_digit run || any_digit (prefix is_in_digits text) ≡ false
rejected_decimal minus run text h = elim (any_digit run || any_digit (prefix is_in_digits text)) as (λ (b : Bool). any_digit run || any_digit (prefix is_in_digits text) ≡ b → b ≡ false) [
  | true ↦ λ e. cc (rw e at h)
  | false ↦ λ e. refl
] refl

abbrev IntegerTaken : List ℕ → Option Next → Option Taken
IntegerTaken text next = option_map (λ n. record { next = n; rest = text }) next

rejected_integer : (next : Option Next) (text other : List ℕ) → IntegerTaken text next ≡ None → IntegerTaken other next ≡ None
rejected_integer None text other h = refl
rejected_integer (Some n) text other h = cc h

-- ---- after a sign

-- where no letter stands first, digits are read
at_number_from : (minus : Bool) (text : List ℕ) → begins (λ c. c == 110) text ≡ false → begins (λ c. c == 105) text ≡ false → after_sign minus text ≡ number_from minus text
at_number_from minus text n i = rw (n, i) refl

-- digits, a point and more digits, of which a part was taken
point_text : (run part more : List ℕ) → (run ++ 46 ∷ part) ++ more ≡ run ++ 46 ∷ (part ++ more)
point_text run part more = append_assoc run (46 ∷ part) more

prefix_begins : (text : List ℕ) → begins is_digit text ≡ true → begins is_digit (prefix is_in_digits text) ≡ true
prefix_begins [] h = cc h
prefix_begins (c ∷ cs) h = rw h h

-- what is read of digits that are no integer
pub integer_halts : (minus : Bool) (text run rest : List ℕ) → text ≡ run ++ rest → Each is_in_digits run → begins is_in_digits rest ≡ false
    → ((after : List ℕ) (c : ℕ) (cs : List ℕ) → rest ≡ c ∷ cs → after_digits minus run (c ∷ after) ≡ None)
    → begins (λ c. c == 110) text ≡ false → begins (λ c. c == 105) text ≡ false
    → (begins is_digit text ≡ true → begins is_digit run ≡ true)
    → Halts (after_sign minus) text rest
integer_halts minus text run rest split run_is stop none n i digit = record {
  prefix = run;
  split = split;
  more = 46 ∷ 53 ∷ [];
  next = _;
  whole =
      at_number_from minus (run ++ 46 ∷ 53 ∷ []) (no_letter 110 46 run (53 ∷ []) refl refl run_is) (no_letter 105 46 run (53 ∷ []) refl refl run_is)
      ∙ (at_run minus run (46 ∷ 53 ∷ []) run_is refl ∙ decimal_whole minus run [] tt);
  breaks = λ c cs after e.
      let first : (p : ℕ → Bool) → begins p (run ++ c ∷ after) ≡ begins p text = λ p. same_first p run after cs c ∙ ap (begins p) (sym (split ∙ ap (λ (t : List ℕ). run ++ t) e)) in
      at_number_from minus (run ++ c ∷ after) (first (λ d. d == 110) ∙ n) (first (λ d. d == 105) ∙ i)
      ∙ (at_run minus run (c ∷ after) run_is (ap (begins is_in_digits) (sym e) ∙ stop) ∙ none after c cs e);
  digit = digit;
}

pub decimal_halts : (minus : Bool) (text run part rest : List ℕ) → text ≡ run ++ 46 ∷ (part ++ rest) → Each is_in_digits run → Each is_in_digits part → begins is_in_digits rest ≡ false
    → any_digit run || any_digit part ≡ false → (begins is_digit text ≡ true → begins is_digit run ≡ true)
    → Halts (after_sign minus) text rest
decimal_halts minus text run part rest split run_is part_is stop none digit = record {
  prefix = run ++ 46 ∷ part;
  split = split ∙ sym (point_text run part rest);
  more = 53 ∷ [];
  next = _;
  whole =
      ap (after_sign minus) (point_text run part (53 ∷ []))
      ∙ (at_number_from minus (run ++ 46 ∷ (part ++ 53 ∷ [])) (no_letter 110 46 run (part ++ 53 ∷ []) refl refl run_is) (no_letter 105 46 run (part ++ 53 ∷ []) refl refl run_is)
      ∙ (at_run minus run (46 ∷ (part ++ 53 ∷ [])) run_is refl ∙ decimal_whole minus run part part_is));
  breaks = λ c cs after e.
      ap (after_sign minus) (point_text run part (c ∷ after))
      ∙ (at_number_from minus (run ++ 46 ∷ (part ++ c ∷ after)) (no_letter 110 46 run (part ++ c ∷ after) refl refl run_is) (no_letter 105 46 run (part ++ c ∷ after) refl refl run_is)
      ∙ (at_run minus run (46 ∷ (part ++ c ∷ after)) run_is refl
      ∙ no_decimal minus run part (c ∷ after) part_is (ap (begins is_in_digits) (sym e) ∙ stop) none));
  digit = λ h. first_unchanged is_digit run (46 ∷ part) (digit h);
}

-- ---- one number

word_stops : (minus : Bool) (token : Token) (word text : List ℕ)
    → ((t : List ℕ) → begins (λ c. c == 110) t ≡ begins (λ c. c == 110) word → begins (λ c. c == 105) t ≡ begins (λ c. c == 105) word → after_sign minus t ≡ word_at token word t)
    → begins (λ c. c == 110) text ≡ begins (λ c. c == 110) word → begins (λ c. c == 105) text ≡ begins (λ c. c == 105) word
    → begins is_digit text ≡ false → word_at token word text ≡ None → Halts (after_sign minus) text (word_remaining word text)
word_stops minus token word text at n i digit h =
    let on = word_halts word text (no_word_at token (after_word word text) h) in
    record {
      prefix = on.prefix;
      split = on.split;
      more = on.more;
      next = a_token token;
      whole = ap (after_sign minus) (sym on.whole) ∙ (at word refl refl ∙ ap (WordTaken token) (word_whole word));
      breaks = λ c cs after e.
          let first : (p : ℕ → Bool) → begins p (on.prefix ++ c ∷ after) ≡ begins p text = λ p. same_first p on.prefix after cs c ∙ ap (begins p) (sym (on.split ∙ ap (λ (t : List ℕ). on.prefix ++ t) e)) in
          at (on.prefix ++ c ∷ after) (first (λ d. d == 110) ∙ n) (first (λ d. d == 105) ∙ i) ∙ ap (WordTaken token) (on.breaks c cs after e);
      digit = λ d. cc (sym d ∙ digit);
    }

-- a letter that stands first
letter_first : (letter : ℕ) (text : List ℕ) → is_digit letter ≡ false → begins (λ c. c == letter) text ≡ true → begins is_digit text ≡ false
letter_first letter [] other h = refl
letter_first letter (c ∷ cs) other h = elim (eqb_tells c letter) [ inl e ↦ ap is_digit e.1 ∙ other | inr e ↦ cc (sym h ∙ e.0) ]

not_both : (a b : ℕ) (text : List ℕ) → (a == b) ≡ false → begins (λ c. c == a) text ≡ true → begins (λ c. c == b) text ≡ false
not_both a b [] other h = refl
not_both a b (c ∷ cs) other h = elim (eqb_tells c a) [ inl e ↦ ap (λ (x : ℕ). x == b) e.1 ∙ other | inr e ↦ cc (sym h ∙ e.0) ]

-- after digits, a point and more digits, or what ends the number
run_stops : (minus : Bool) (text run rest : List ℕ) → run ≡ prefix is_in_digits text → rest ≡ following is_in_digits text → begins (λ c. c == 110) text ≡ false → begins (λ c. c == 105) text ≡ false
    → after_digits minus run rest ≡ None → Halts (after_sign minus) text (point_remaining rest)
run_stops minus text run [] is b n i h =
    integer_halts minus text run [] (span_split is_in_digits text ∙ (ap (λ (t : List ℕ). t ++ following is_in_digits text) (sym is) ∙ ap (λ (t : List ℕ). run ++ t) (sym b)))
    (subst (λ (t : List ℕ). Each is_in_digits t) (sym is) (prefix_passes is_in_digits text)) refl (λ after c cs e. cc e) n i
    (λ d. ap (begins is_digit) is ∙ prefix_begins text d)
run_stops minus text run (c ∷ cs) is b n i h =
    let split : text ≡ run ++ c ∷ cs = span_split is_in_digits text ∙ (ap (λ (t : List ℕ). t ++ following is_in_digits text) (sym is) ∙ ap (λ (t : List ℕ). run ++ t) (sym b)) in
    let passes : Each is_in_digits run = subst (λ (t : List ℕ). Each is_in_digits t) (sym is) (prefix_passes is_in_digits text) in
    let stop : is_in_digits c ≡ false = ap (begins is_in_digits) b ∙ after_stops is_in_digits text in
    let digit : begins is_digit text ≡ true → begins is_digit run ≡ true = λ d. ap (begins is_digit) is ∙ prefix_begins text d in
    elim (eqb_tells c 46) [
      | inl e ↦ rw e.0 (decimal_halts minus text run (prefix is_in_digits cs) (following is_in_digits cs)
          (split ∙ (ap (λ (d : ℕ). run ++ d ∷ cs) e.1 ∙ ap (λ (t : List ℕ). run ++ 46 ∷ t) (span_split is_in_digits cs)))
          passes (prefix_passes is_in_digits cs) (after_stops is_in_digits cs) (rejected_decimal minus run cs (rw e.0 at h)) digit)
      | inr e ↦ rw e.0 (elim (eqb_tells c 45) [
        | inl f ↦ cc (rw (e.0, f.0) at h)
        | inr f ↦
            let none : integer_at minus run (c ∷ cs) ≡ None = rw (e.0, f.0) at h in
            integer_halts minus text run (c ∷ cs) split passes stop
            (λ after d ds same.
            let here : c ≡ d = cc same in
            subst (λ (x : ℕ). after_digits minus run (x ∷ after) ≡ None) here
            (rw (e.0, f.0) (rejected_integer (integer_from minus (any_digit run) (fitting (value run))) (c ∷ cs) (c ∷ after) none)))
            n i digit
      ])
    ]

unsigned_halts : (minus : Bool) (text : List ℕ) → after_sign minus text ≡ None → Halts (after_sign minus) text (unsigned_remaining text)
unsigned_halts minus text h = elim (begins (λ c. c == 110) text) as (λ (b : Bool). begins (λ c. c == 110) text ≡ b → Halts (after_sign minus) text (unsigned_remaining text)) [
  | true ↦ λ n. rw n (word_stops minus (nan minus) (codes "nan") text (λ t p q. rw p refl) n (not_both 110 105 text refl n) (letter_first 110 text refl n) (rw n at h))
  | false ↦ λ n. rw n (elim (begins (λ c. c == 105) text) as (λ (b : Bool). begins (λ c. c == 105) text ≡ b → Halts (after_sign minus) text (cond b (word_remaining (codes "inf") text) (point_remaining (following is_in_digits text)))) [
    | true ↦ λ i. word_stops minus (infinity minus) (codes "inf") text (λ t p q. rw (p, q) refl) n i (letter_first 105 text refl i) (rw (n, i) at h)
    | false ↦ λ i. run_stops minus text (prefix is_in_digits text) (following is_in_digits text) refl refl n i (rw (n, i) at h)
  ] refl)
] refl

-- ---- with its sign

digit_no_sign : (c : ℕ) → is_digit c ≡ true → (is_sign c ≡ false) × ((c == 45) ≡ false)
digit_no_sign c h = (grind (arith, nat_tests, h), grind (arith, nat_tests, h))

digit_signs : (text : List ℕ) → begins is_digit text ≡ true → number_at text ≡ after_sign false text
digit_signs [] h = cc h
digit_signs (c ∷ cs) h = let no = digit_no_sign c h in rw (no.0, no.1) refl

signed : (c : ℕ) (cs : List ℕ) → is_sign c ≡ true → number_at (c ∷ cs) ≡ after_sign (c == 45) cs
signed c cs h = rw h refl

sign_starts : (c : ℕ) → is_sign c ≡ true → starts_number c ≡ true
sign_starts c h = rw h refl

digit_starts : (text : List ℕ) → begins is_digit text ≡ true → begins starts_number text ≡ true
digit_starts [] h = cc h
digit_starts (c ∷ cs) h = ap (λ (b : Bool). is_sign c || b) h ∙ or-true (is_sign c)

starts_digit : (c : ℕ) → starts_number c ≡ true → is_sign c ≡ false → is_digit c ≡ true
starts_digit c h s = rw s at h

-- a number's scan, and that what was taken begins as a number
pub record NumberHalts (text remaining : List ℕ) : Type 0 where
  pub halts : Halts number_at text remaining
  pub starts : begins starts_number halts.prefix ≡ true

pub number_halts : (c : ℕ) (cs : List ℕ) → starts_number c ≡ true → number_at (c ∷ cs) ≡ None → NumberHalts (c ∷ cs) (number_remaining (c ∷ cs))
number_halts c cs start h = elim (is_sign c) as (λ (b : Bool). is_sign c ≡ b → NumberHalts (c ∷ cs) (number_remaining (c ∷ cs))) [
  | true ↦ λ s.
      let on = unsigned_halts (c == 45) cs (sym (signed c cs s) ∙ h) in
      rw s (record {
        halts = record {
          prefix = c ∷ on.prefix;
          split = ap (λ (t : List ℕ). c ∷ t) on.split;
          more = on.more;
          next = on.next;
          whole = signed c (on.prefix ++ on.more) s ∙ on.whole;
          breaks = λ d ds after e. signed c (on.prefix ++ d ∷ after) s ∙ on.breaks d ds after e;
          digit = λ d. d;
        };
        starts = sign_starts c s;
      })
  | false ↦ λ s.
      let d = starts_digit c start s in
      let on = unsigned_halts false (c ∷ cs) (sym (digit_signs (c ∷ cs) d) ∙ h) in
      let taken = on.digit d in
      rw s (record {
        halts = record {
          prefix = on.prefix;
          split = on.split;
          more = on.more;
          next = on.next;
          whole = digit_signs (on.prefix ++ on.more) (first_unchanged is_digit on.prefix on.more taken) ∙ on.whole;
          breaks = λ e es after r. digit_signs (on.prefix ++ e ∷ after) (first_unchanged is_digit on.prefix (e ∷ after) taken) ∙ on.breaks e es after r;
          digit = on.digit;
        };
        starts = digit_starts on.prefix taken;
      })
] refl
