-- Whole numbers of few digits: what is taken at once, and that it is a number.
use Rattle.std.proofs.Common.{◌≡◌, ◌≢◌, ℕ, ◌+◌, ◌-◌, ◌<◌, ◌≤◌, ◌^◌, min, List, [], ◌∷◌, ◌++◌, true}
use Rattle.std.proofs.Common.{false, Some, None, pos, neg_ℤ, arith, refl, ap, sym, ◌∙◌, subst}
use Rattle.std.proofs.Common.{Bool, Option, IfSome, cond, zero, suc}
use Rattle.std.proofs.Common.{append_assoc, append-nil, add-one, drop, take, length, length-append}
use Rattle.std.proofs.Common.{get_or, chars, IsUtf8, ne_eqb}
use Rattle.std.proofs.Math.Nat.{pow-le-pow_right}
use Rattle.std.proofs.Math.Seq.{drop-cons}
use Rattle.std.proofs.lemmas.List.{take-append-drop}
use Rattle.std.proofs.lemmas.Str.{IsUtf8-take, IsUtf8-past_char, chars-append, chars_past_char}
use Rattle.std.proofs.lemmas.Str.{encode_ascii, IsCharBoundary-at_seam}
use Rattle.std.specs.Char.{is_ascii_digit, digit_value}
use Rattle.std.specs.List.{AllByRecursion}
use Rattle.std.specs.Str.{IsCharBoundary, all_ascii_digits}
use Rattle.std.specs.Str.Iter.{chars_rest}
use Rattle.std.specs.Str.Parse.{digits_value, digits_value_after}
use Rattle.std.specs.declared.str.Chars.{Chars}
use Rattle.nano_text.specs.declared.number.Number.{Number}
use Rattle.nano_text.specs.declared.number.Number.TheVariants.{U64, I64}
use Rattle.nano_text.specs.declared.place.Place.{Place}
use Rattle.nano_text.specs.Characters.{first_is, prefix, following}
use Rattle.nano_text.specs.Number.{Run, IsNumber, continues, run_text}
use Rattle.nano_text.specs.Place.{held, remaining, text_at, before_nul, IsInLine, Passes, Moves}
use Rattle.nano_text.specs.Place.{place_after, saturating_next}
use Rattle.nano_text.proofs.DigitValues.{digits-chars}
use Rattle.nano_text.proofs.InLine.{in_line_line, in_line_col}
use Rattle.nano_text.proofs.PlaceLaws.{passes_append}
use Rattle.nano_text.proofs.RemainingText.{remaining_more}
use Rattle.nano_text.proofs.Runs.{digits_split}
use Rattle.nano_text.proofs.Prefixes.{digits_cut, digits_in_line, drop_prefix, take_prefix, prefix_boundary}
use Rattle.nano_text.proofs.Utf8Prefixes.{prefix-append-following, prefix-before_nul}
use Rattle.nano_text.proofs.Utf8Prefixes.{following-before_nul}

-- nineteen digits write no number that 64 bits don't hold
pub few_digits : (value len : ℕ) → value < 10 ^ (len + 1) → len < 18 → value < 10 ^ 18
few_digits value len capacity few =
    let fits : len + 1 ≤ 18 = omega (arith, few) in
    let more : 10 ^ (len + 1) ≤ 10 ^ 18 = pow-le-pow_right (omega arith) fits in
    omega (arith, capacity, more)

-- a prefix that ends within the first bytes is that of all
pub prefix_of_first : (p : ℕ → Bool) (t : List ℕ) (n : ℕ) → length (prefix p (take n t)) < length (take n t)
    → prefix p (take n t) ≡ prefix p t
prefix_of_first p t zero less = absurd (omega (arith, less))
prefix_of_first p [] (suc n) less = refl
prefix_of_first p (c ∷ cs) (suc n) less =
    elim (p c) as (λ b. length (cond b (c ∷ prefix p (take n cs)) []) < length (c ∷ take n cs)
    → cond b (c ∷ prefix p (take n cs)) [] ≡ cond b (c ∷ prefix p cs) []) [
      | true ↦ λ h. ap (λ (l : List ℕ). c ∷ l) (prefix_of_first p cs n (omega (arith, h)))
      | false ↦ λ h. refl
    ] less

-- what two facts of an answer give
pub if_some_with : {A : Type 0} (P Q R : A → Type 0) (r : Option A) → ((x : A) → P x → Q x → R x) → IfSome r P → IfSome r Q → IfSome r R
if_some_with P Q R (Some x) f p q = f x p q
if_some_with P Q R None f p q = tt

-- the digits that a text begins with, and an ASCII character after them
module _ (text : List ℕ) (len next : ℕ) (utf8 : IsUtf8 text) (count : len ≡ length (prefix is_ascii_digit text)) (within : len < length text) (is : next ≡ get_or text len 0) (ascii : next < 128) where
  after_digits : following is_ascii_digit text ≡ next ∷ drop (len + 1) text
  after_digits =
      sym (ap (λ (n : ℕ). drop n text) count ∙ drop_prefix is_ascii_digit refl digits_cut text)
      ∙ (drop-cons text len 0 within ∙ rw (add-one, is) refl)

  utf8_after : IsUtf8 (drop (len + 1) text)
  utf8_after =
      IsUtf8-past_char (following is_ascii_digit text) (drop (len + 1) text) next (digits_cut text utf8).after_utf8
      (rw (encode_ascii next ascii) after_digits)

  pub chars_after : following is_ascii_digit (chars text) ≡ next ∷ chars (drop (len + 1) text)
  chars_after =
      sym (digits_cut text utf8).after_is
      ∙ chars_past_char (following is_ascii_digit text) (drop (len + 1) text) next (digits_cut text utf8).after_utf8
      (rw (encode_ascii next ascii) after_digits)

  -- what remains once they are taken, too
  pub rest_after : (cur : ℕ) (before after : Chars) → text ≡ chars_rest before → cur ≡ next
      → chars_rest after ≡ drop (len + 1) text
      → remaining cur after ≡ before_nul (following is_ascii_digit (held before))
  unfolding remaining
  rest_after cur before after same current left =
      ap (λ (n : ℕ). before_nul (n ∷ held after)) current
      ∙ ap before_nul (ap (λ (bs : List ℕ). next ∷ chars bs) left
      ∙ (sym chars_after ∙ ap (λ (bs : List ℕ). following is_ascii_digit (chars bs)) same))

  -- the digits and that character
  abbrev run : List ℕ
  run = prefix is_ascii_digit text ++ (next ∷ [])

  run_split : text ≡ run ++ drop (len + 1) text
  run_split =
      sym (prefix-append-following is_ascii_digit text)
      ∙ (ap (λ (l : List ℕ). prefix is_ascii_digit text ++ l) after_digits
      ∙ sym (append_assoc (prefix is_ascii_digit text) (next ∷ []) (drop (len + 1) text)))

  run_len : length run ≡ len + 1
  run_len = omega (arith, count, length-append (prefix is_ascii_digit text) (next ∷ []))

  pub run_boundary : IsCharBoundary text (len + 1)
  run_boundary =
      subst (λ (n : ℕ). IsCharBoundary text n) run_len
      (IsCharBoundary-at_seam text run (drop (len + 1) text) run_split utf8_after)

  -- the digits alone
  digits_taken : take len text ≡ prefix is_ascii_digit text
  digits_taken = ap (λ (n : ℕ). take n text) count ∙ take_prefix is_ascii_digit refl digits_cut text

  digits_left : chars (drop len text) ≡ next ∷ chars (drop (len + 1) text)
  digits_left =
      ap chars (ap (λ (n : ℕ). drop n text) count ∙ drop_prefix is_ascii_digit refl digits_cut text)
      ∙ ((digits_cut text utf8).after_is ∙ chars_after)

  -- the place once they are taken
  abbrev pub past_digits : Place → Place
  past_digits p = record { cur = p.cur; line = p.line; col = min (p.col + len) (2 ^ 64 - 1) }

  digits_pass : (p : Place) → p.col < 2 ^ 64
      → Passes p (chars text) (past_digits p) (next ∷ chars (drop (len + 1) text))
  digits_pass p small =
      let utf8_run = IsUtf8-take text len utf8 (prefix_boundary is_ascii_digit refl digits_cut text len utf8 count) in
      let in_line = subst (AllByRecursion IsInLine) (sym digits_taken) (digits_in_line text) in
      record {
        taken = chars (take len text);
        split = ap chars (sym (take-append-drop len text))
            ∙ (chars-append (take len text) (drop len text) utf8_run
            ∙ ap (λ (cs : List ℕ). chars (take len text) ++ cs) digits_left);
        line = sym (in_line_line p (take len text) utf8_run in_line);
        col = ap (λ (n : ℕ). min (p.col + n) (2 ^ 64 - 1)) (count ∙ ap length (sym digits_taken))
            ∙ sym (in_line_col p (take len text) utf8_run in_line small);
      }

  -- the line and column once that character is taken, too
  pub after_feed : (p : Place) → next ≡ 10
      → ((place_after (past_digits p) (next ∷ [])).line ≡ saturating_next p.line)
      × ((place_after (past_digits p) (next ∷ [])).col ≡ 0)
  after_feed p feed = rw feed (refl, refl)

  pub after_other : (p : Place) → next ≢ 10
      → ((place_after (past_digits p) (next ∷ [])).line ≡ p.line)
      × ((place_after (past_digits p) (next ∷ [])).col ≡ min (p.col + (len + 1)) (2 ^ 64 - 1))
  after_other p other = rw (ne_eqb next 10 other) (refl, omega arith)

  pub run_passes : (p q : Place) (after : List ℕ) → p.col < 2 ^ 64
      → q.line ≡ (place_after (past_digits p) (next ∷ [])).line
      → q.col ≡ (place_after (past_digits p) (next ∷ [])).col → after ≡ drop (len + 1) text
      → Passes p (chars text) q (chars after)
  run_passes p q after small line col left =
      passes_append {p = p} {q = past_digits p} {r = q} (digits_pass p small) (record {
        taken = next ∷ [];
        split = ap (λ (bs : List ℕ). next ∷ chars bs) (sym left);
        line = line;
        col = col;
      })

  -- and all of it is of the text, if that begins at the current character
  pub advances_number : (p q : Place) (before after : Chars) → text ≡ chars_rest before → chars_rest after ≡ drop (len + 1) text
      → p.cur ≢ 0 → text_at q after ≡ before_nul (following is_ascii_digit (held before))
      → Passes p (held before) q (held after) → Moves p before q after
  advances_number p q before after same left some rest_is passes =
      let all = held before in
      let rest : following is_ascii_digit all ≡ next ∷ held after =
      ap (λ (bs : List ℕ). following is_ascii_digit (chars bs)) (sym same) ∙ (chars_after ∙ ap (λ (bs : List ℕ). next ∷ chars bs) (sym left)) in
      let whole = ap length (prefix-append-following is_ascii_digit all) in
      let parts = length-append (prefix is_ascii_digit all) (following is_ascii_digit all) in
      let left_len = ap length rest in
      let texts = ap length (prefix-append-following is_ascii_digit (before_nul all)) in
      let text_parts = length-append (prefix is_ascii_digit (before_nul all)) (following is_ascii_digit (before_nul all)) in
      let runs = ap length (prefix-before_nul is_ascii_digit refl all) in
      let ends = ap length (following-before_nul is_ascii_digit refl all) in
      let last = ap length rest_is in
      let more = ap length (remaining_more p.cur before some) in
      record {
        passes = passes;
        within = omega (arith, texts, text_parts, ends, last, more);
        exact = omega (arith, whole, parts, left_len, texts, text_parts, runs, ends, last, more);
      }

-- ---- what was taken is a number

module _ (cur : ℕ) (before : Chars) (bytes : List ℕ) (utf8 : IsUtf8 bytes) (is : bytes ≡ chars_rest before) where
  bytes_digits : prefix is_ascii_digit bytes ≡ prefix is_ascii_digit (before_nul (held before))
  bytes_digits =
      digits-chars bytes utf8
      ∙ (ap (λ (bs : List ℕ). prefix is_ascii_digit (chars bs)) is ∙ sym (prefix-before_nul is_ascii_digit refl (held before)))

  digits_and_rest : (rest : List ℕ) → rest ≡ before_nul (following is_ascii_digit (held before))
      → before_nul (held before) ≡ prefix is_ascii_digit bytes ++ rest
  digits_and_rest rest left =
      rw (bytes_digits, left, sym (following-before_nul is_ascii_digit refl (held before)))
      (sym (prefix-append-following is_ascii_digit (before_nul (held before))))

  are_digits : all_ascii_digits (prefix is_ascii_digit bytes) ≡ true
  are_digits = (digits_split bytes).1

  pub unsigned_found : (value : ℕ) (rest : List ℕ) → is_ascii_digit cur ≡ true
      → value ≡ digits_value_after 10 (digit_value cur) (prefix is_ascii_digit bytes) → value < 2 ^ 64
      → rest ≡ before_nul (following is_ascii_digit (held before)) → first_is (continues None None) rest ≡ false
      → (run : List ℕ) × IsNumber (remaining cur before) (U64 value) run rest
  unsigned_found value rest digit value_is small left ends =
      let some : cur ≢ 0 = λ e. let x : is_ascii_digit 0 ≡ true = subst (λ (n : ℕ). is_ascii_digit n ≡ true) e digit in cc x in
      let whole = cur ∷ prefix is_ascii_digit bytes in
      let all : value ≡ digits_value 10 whole = value_is ∙ ap (λ (n : ℕ). digits_value_after 10 n (prefix is_ascii_digit bytes)) (omega arith) in
      let parts : Run = record { sign = None; whole = whole; fraction = None; exponent = None } in (
        run_text parts,
        record {
          parts = parts;
          is_run = record { sign = tt; whole = rw digit are_digits; fraction = tt; letter = tt; digits = tt };
          good = (omega arith, omega (arith, all, small));
          number_is = ap U64 all;
          run_is = refl;
          split = remaining_more cur before some ∙ rw (append-nil (prefix is_ascii_digit bytes)) (ap (λ (l : List ℕ). cur ∷ l) (digits_and_rest rest left));
          ends = ends;
        },
      )

  pub negative_found : (number : Number) (rest : List ℕ) → cur ≡ 45 → 0 < length (prefix is_ascii_digit bytes)
      → digits_value 10 (prefix is_ascii_digit bytes) ≤ 2 ^ 63
      → number ≡ I64 (neg_ℤ (pos (digits_value 10 (prefix is_ascii_digit bytes))))
      → rest ≡ before_nul (following is_ascii_digit (held before)) → first_is (continues None None) rest ≡ false
      → (run : List ℕ) × IsNumber (remaining cur before) number run rest
  negative_found number rest minus some small is_i64 left ends =
      let parts : Run = record { sign = Some 45; whole = prefix is_ascii_digit bytes; fraction = None; exponent = None } in
      let here : cur ≢ 0 = λ e. omega (arith, e, minus) in (
        run_text parts,
        record {
          parts = parts;
          is_run = record { sign = refl; whole = are_digits; fraction = tt; letter = tt; digits = tt };
          good = (some, small);
          number_is = is_i64;
          run_is = refl;
          split = remaining_more cur before here ∙ rw (minus, append-nil (prefix is_ascii_digit bytes)) (ap (λ (l : List ℕ). 45 ∷ l) (digits_and_rest rest left));
          ends = ends;
        },
      )
