-- The prefix of a text that passes a test, and what is after it.
use Rattle.std.proofs.Common.{◌≡◌, ℕ, zero, suc, ◌+◌, ◌<◌, ◌≤◌, List, [], ◌∷◌, ◌++◌, Bool, true}
use Rattle.std.proofs.Common.{false, cond, length, drop, get_or, refl, ap, arith, ◌≢◌, ◌-◌, ◌^◌}
use Rattle.std.proofs.Common.{min, take, length-append, chars, encode_utf8, encode_utf8_all, IsUtf8}
use Rattle.std.proofs.Common.{sym, ◌∙◌, subst, ne_eqb}
use Rattle.std.specs.List.{AllByRecursion}
use Rattle.std.proofs.Math.Seq.{drop-append_seam}
use Rattle.std.proofs.lemmas.List.{take_at, take-append-drop}
use Rattle.std.proofs.lemmas.Str.{IsUtf8-take, chars-append}
use Rattle.std.proofs.lemmas.Bool.Decides.{nat_tests}
use Rattle.std.specs.Char.{is_ascii_digit}
use Rattle.std.specs.Str.{IsCharBoundary}
use Rattle.std.specs.Str.Iter.{chars_rest}
use Rattle.std.specs.declared.str.Chars.{Chars}
use Rattle.nano_text.specs.Characters.{first_is, prefix, following}
use Rattle.nano_text.specs.declared.place.Place.{Place}
use Rattle.nano_text.specs.Place.{held, remaining, text_at, tail, before_nul, passed, IsInLine}
use Rattle.nano_text.specs.Place.{Passes, Moves}
use Rattle.nano_text.proofs.PlaceLaws.{passes_append, tail_len}
use Rattle.nano_text.specs.String.{is_plain}
use Rattle.nano_text.proofs.InLine.{in_line_line, in_line_col, prefix_in_line}
use Rattle.nano_text.proofs.RemainingText.{remaining_more, not_nul}
use Rattle.nano_text.proofs.Utf8Prefixes.{CutAfterPrefix, cut_wide, cut_narrow}
use Rattle.nano_text.proofs.Utf8Prefixes.{prefix-append-following, prefix-before_nul}
use Rattle.nano_text.proofs.Utf8Prefixes.{following-before_nul}

pub after_stop : (p : ℕ → Bool) (t : List ℕ) → first_is p t ≡ false → following p t ≡ t
after_stop p [] e = refl
after_stop p (c ∷ cs) e = rw e refl

pub prefix_stop : (p : ℕ → Bool) (t : List ℕ) → first_is p t ≡ false → prefix p t ≡ []
prefix_stop p [] e = refl
prefix_stop p (c ∷ cs) e = rw e refl

-- a prefix is no longer than its text
pub prefix_fits : (p : ℕ → Bool) (t : List ℕ) → length (prefix p t) ≤ length t
prefix_fits p [] = omega arith
prefix_fits p (c ∷ cs) =
    elim (p c) as (λ b. length (cond b (c ∷ prefix p cs) []) ≤ length (c ∷ cs)) [
      | true ↦ let more = prefix_fits p cs in omega (arith, more)
      | false ↦ omega arith
    ]

-- a prefix begins with the first characters, where they pass
pub prefix_past : (p : ℕ → Bool) (t : List ℕ) (n : ℕ) → n ≤ length t → ((k : ℕ) → k < n → p (get_or t k 0) ≡ true) → length (prefix p t) ≡ n + length (prefix p (drop n t))
prefix_past p t zero within all = omega arith
prefix_past p [] (suc n) within all = absurd (omega (arith, within))
prefix_past p (c ∷ cs) (suc n) within all =
    let more = prefix_past p cs n (omega (arith, within)) (λ k low. all (suc k) (omega (arith, low))) in
    rw (all 0 (omega arith)) (omega (arith, more))

-- a prefix ends at the first character that does not pass
pub prefix_ends : (p : ℕ → Bool) (t : List ℕ) (n : ℕ) → n < length t → ((k : ℕ) → k < n → p (get_or t k 0) ≡ true)
    → p (get_or t n 0) ≡ false → length (prefix p t) ≡ n
prefix_ends p [] n within all e = absurd (omega (arith, within))
prefix_ends p (c ∷ cs) zero within all e = rw e (omega arith)
prefix_ends p (c ∷ cs) (suc n) within all e =
    let more = prefix_ends p cs n (omega (arith, within)) (λ k low. all (suc k) (omega (arith, low))) e in
    rw (all 0 (omega arith)) (omega (arith, more))

-- the longest prefix of a list of such characters and what doesn't continue them
pub prefix_all : (p : ℕ → Bool) (w rest : List ℕ) → AllByRecursion (λ c. p c ≡ true) w → first_is p rest ≡ false → (prefix p (w ++ rest) ≡ w) × (following p (w ++ rest) ≡ rest)
prefix_all p [] rest h e = (prefix_stop p rest e, after_stop p rest e)
prefix_all p (c ∷ w) rest h e =
    let r = prefix_all p w rest h.1 e in
    (rw h.0 (ap (λ (l : List ℕ). c ∷ l) r.0), rw h.0 r.1)

-- a text is its longest prefix and what is after it
pub prefix_split : (p : ℕ → Bool) (t : List ℕ) → (t ≡ prefix p t ++ following p t) × AllByRecursion (λ c. p c ≡ true) (prefix p t) × (first_is p (following p t) ≡ false)
prefix_split p [] = (refl, tt, refl)
prefix_split p (c ∷ cs) =
    let r = prefix_split p cs in
    elim (p c) as (λ (b : Bool). p c ≡ b → (c ∷ cs ≡ cond b (c ∷ prefix p cs) [] ++ cond b (following p cs) (c ∷ cs)) × AllByRecursion (λ c. p c ≡ true) (cond b (c ∷ prefix p cs) []) × (first_is p (cond b (following p cs) (c ∷ cs)) ≡ false)) [
      | true ↦ λ e. (ap (λ (l : List ℕ). c ∷ l) r.0, (e, r.1), r.2)
      | false ↦ λ e. (refl, tt, e)
    ] refl

-- ==== a prefix that is taken

module _ (test : ℕ → Bool) (stops : test 0 ≡ false) (cut : (bytes : List ℕ) → IsUtf8 bytes → CutAfterPrefix test bytes) where
  no_nul : (c : ℕ) → test c ≡ true → c ≢ 0
  no_nul c h = not_nul test c stops h

  pub drop_prefix : (text : List ℕ) → drop (length (prefix test text)) text ≡ following test text
  drop_prefix text = ap (drop (length (prefix test text))) (sym (prefix-append-following test text)) ∙ drop-append_seam (prefix test text) (following test text)

  pub take_prefix : (text : List ℕ) → take (length (prefix test text)) text ≡ prefix test text
  take_prefix text = ap (take (length (prefix test text))) (sym (prefix-append-following test text)) ∙ take_at (prefix test text) (following test text) (length (prefix test text)) refl

  -- the bytes may be cut there
  pub prefix_boundary : (text : List ℕ) (n : ℕ) → IsUtf8 text → n ≡ length (prefix test text) → IsCharBoundary text n
  prefix_boundary text n utf8 e = subst (λ (k : ℕ). IsCharBoundary text k) (sym e) (cut text utf8).boundary

  -- what remains after that prefix
  pub remaining_after : (cur n : ℕ) (before after : Chars) (text : List ℕ) → test cur ≡ true → IsUtf8 text → text ≡ chars_rest before → n ≡ length (prefix test text) → chars_rest after ≡ drop n text
      → before_nul (held after) ≡ following test (remaining cur before)
  remaining_after cur n before after text passes utf8 is count left =
      let rest_is : chars_rest after ≡ following test text = left ∙ (ap (λ (k : ℕ). drop k text) count ∙ drop_prefix text) in
      let held_is : held after ≡ following test (held before) = ap chars rest_is ∙ ((cut text utf8).after_is ∙ ap (λ (bs : List ℕ). following test (chars bs)) is) in
      ap before_nul held_is ∙ (sym (following-before_nul test stops (held before)) ∙ sym (ap (following test) (remaining_more cur before (no_nul cur passes)) ∙ rw passes refl))

  -- that prefix begins with the current character
  pub prefix-remaining : (cur : ℕ) (before : Chars) → test cur ≡ true → prefix test (remaining cur before) ≡ cur ∷ prefix test (held before)
  prefix-remaining cur before passes = ap (prefix test) (remaining_more cur before (no_nul cur passes)) ∙ rw passes (ap (λ (l : List ℕ). cur ∷ l) (prefix-before_nul test stops (held before)))

  -- that prefix, as bytes
  pub prefix_bytes : (cur n : ℕ) (before : Chars) (text : List ℕ) → test cur ≡ true → IsUtf8 text → text ≡ chars_rest before → n ≡ length (prefix test text)
      → encode_utf8 cur ++ take n text ≡ encode_utf8_all (prefix test (remaining cur before))
  prefix_bytes cur n before text passes utf8 is count =
      let taken : take n text ≡ encode_utf8_all (prefix test (held before)) = ap (λ (k : ℕ). take k text) count ∙ (take_prefix text ∙ ((cut text utf8).prefix_is ∙ ap (λ (bs : List ℕ). encode_utf8_all (prefix test (chars bs))) is)) in
      rw (prefix-remaining cur before passes) (ap (λ (l : List ℕ). encode_utf8 cur ++ l) taken)

  -- it has space for the current character
  pub prefix_capacity : (cur : ℕ) (before : Chars) → test cur ≡ true → length (encode_utf8 cur) ≤ length (encode_utf8_all (prefix test (remaining cur before)))
  prefix_capacity cur before passes = rw (prefix-remaining cur before passes) (omega (arith, length-append (encode_utf8 cur) (encode_utf8_all (prefix test (held before)))))

  pub after_shorter : (cur : ℕ) (before : Chars) → test cur ≡ true → length (following test (remaining cur before)) < length (remaining cur before)
  after_shorter cur before passes =
      omega (arith, ap length (prefix-append-following test (remaining cur before)), length-append (prefix test (remaining cur before)) (following test (remaining cur before)), ap length (prefix-remaining cur before passes))

  -- that prefix of the bytes, and what is after it, as characters
  utf8_prefix : (text : List ℕ) → IsUtf8 text → IsUtf8 (prefix test text)
  utf8_prefix text utf8 =
      subst IsUtf8 (take_prefix text) (IsUtf8-take text (length (prefix test text)) utf8 (cut text utf8).boundary)

  -- what passes that prefix and goes on after it
  pub passes_prefix : (p q r : Place) (n : ℕ) (before after : Chars) (text last : List ℕ) → IsUtf8 text
      → text ≡ chars_rest before → n ≡ length (prefix test text) → chars_rest after ≡ drop n text
      → q.line ≡ (passed p (chars (take n text))).line → q.col ≡ (passed p (chars (take n text))).col
      → Passes q (held after) r last → Passes p (held before) r last
  passes_prefix p q r n before after text last utf8 is count left line col goes_on =
      let taken : take n text ≡ prefix test text = ap (λ (k : ℕ). take k text) count ∙ take_prefix text in
      let run : IsUtf8 (take n text) = subst IsUtf8 (sym taken) (utf8_prefix text utf8) in
      passes_append {p = p} {between = held after} (record {
        taken = chars (take n text);
        split = ap chars (sym is ∙ sym (take-append-drop n text))
            ∙ (chars-append (take n text) (drop n text) run ∙ ap (λ (bs : List ℕ). chars (take n text) ++ chars bs) (sym left));
        line = line;
        col = col;
      }) goes_on

  -- the same where that prefix is in a line
  pub passes_in_line : (p q r : Place) (n : ℕ) (before after : Chars) (text last : List ℕ) → IsUtf8 text
      → text ≡ chars_rest before → n ≡ length (prefix test text) → chars_rest after ≡ drop n text
      → AllByRecursion IsInLine (prefix test text) → p.col < 2 ^ 64
      → q.line ≡ p.line → q.col ≡ min (p.col + n) (2 ^ 64 - 1)
      → Passes q (held after) r last → Passes p (held before) r last
  passes_in_line p q r n before after text last utf8 is count left in_line small line col goes_on =
      let taken : take n text ≡ prefix test text = ap (λ (k : ℕ). take k text) count ∙ take_prefix text in
      let run = utf8_prefix text utf8 in
      passes_prefix p q r n before after text last utf8 is count left
      (line ∙ sym (ap (λ (bs : List ℕ). (passed p (chars bs)).line) taken ∙ in_line_line p (prefix test text) run in_line))
      (col ∙ (ap (λ (k : ℕ). min (p.col + k) (2 ^ 64 - 1)) count
      ∙ sym (ap (λ (bs : List ℕ). (passed p (chars bs)).col) taken ∙ in_line_col p (prefix test text) run in_line small))) goes_on

  -- what passes that prefix and the character after it is of the text, if that begins at the current character
  pub advances_over : (p r : Place) (n : ℕ) (before mid after : Chars) (text : List ℕ) → p.cur ≢ 0 → IsUtf8 text
      → text ≡ chars_rest before → n ≡ length (prefix test text) → chars_rest mid ≡ drop n text
      → held after ≡ tail (held mid) → text_at r after ≡ before_nul (held mid)
      → Passes p (held before) r (held after) → Moves p before r after
  advances_over p r n before mid after text some utf8 is count left after_is remaining_is passes =
      let rest_is : chars_rest mid ≡ following test text = left ∙ (ap (λ (k : ℕ). drop k text) count ∙ drop_prefix text) in
      let mid_is : held mid ≡ following test (held before) = ap chars rest_is ∙ ((cut text utf8).after_is ∙ ap (λ (bs : List ℕ). following test (chars bs)) is) in
      let text_is : text_at r after ≡ following test (before_nul (held before)) =
      remaining_is ∙ (ap before_nul mid_is ∙ sym (following-before_nul test stops (held before))) in
      let run = prefix test (held before) in
      let all = ap length (prefix-append-following test (held before)) in
      let parts = length-append run (following test (held before)) in
      let mids = ap length mid_is in
      let texts = ap length (prefix-append-following test (before_nul (held before))) in
      let text_parts = length-append (prefix test (before_nul (held before))) (following test (before_nul (held before))) in
      let runs = ap length (prefix-before_nul test stops (held before)) in
      let ends = ap length text_is in
      let more = ap length (remaining_more p.cur before some) in
      let last = ap length after_is in
      let one = tail_len (held mid) in
      record {
        passes = passes;
        within = omega (arith, texts, text_parts, ends, more);
        exact = omega (arith, all, parts, mids, texts, text_parts, runs, ends, more, last, one);
      }

-- characters that stand for themselves in a string, which all beyond ASCII do
plain_wide : (n : ℕ) → 128 ≤ n → is_plain n ≡ true
plain_wide n h = rw (ne_eqb n 34 (λ e. omega arith), ne_eqb n 92 (λ e. omega arith), ne_eqb n 0 (λ e. omega arith)) refl

pub plain_cut : (bytes : List ℕ) → IsUtf8 bytes → CutAfterPrefix is_plain bytes
plain_cut bytes utf8 = cut_wide is_plain plain_wide bytes utf8

-- digits, which none beyond ASCII is
digit_narrow : (n : ℕ) → 128 ≤ n → is_ascii_digit n ≡ false
digit_narrow n h = grind (arith, nat_tests)

pub digits_cut : (bytes : List ℕ) → IsUtf8 bytes → CutAfterPrefix is_ascii_digit bytes
digits_cut bytes utf8 = cut_narrow is_ascii_digit digit_narrow bytes utf8

-- and each digit is in a line
pub digits_in_line : (bytes : List ℕ) → AllByRecursion IsInLine (prefix is_ascii_digit bytes)
digits_in_line bytes = prefix_in_line is_ascii_digit in_line bytes where
  in_line : (b : ℕ) → is_ascii_digit b ≡ true → IsInLine b
  in_line b h = (grind (arith, nat_tests), grind (arith, nat_tests))
