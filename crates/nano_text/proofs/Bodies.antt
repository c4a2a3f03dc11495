-- Strings that are read at once: plain characters in their line, and short escapes.
use Rattle.std.proofs.Common.{◌≡◌, ◌≢◌, ℕ, ◌+◌, ◌-◌, ◌^◌, ◌<◌, ◌≤◌, min, List, [], ◌∷◌}
use Rattle.std.proofs.Common.{◌++◌, Bool, true, false, cond, drop, take, length, length-append}
use Rattle.std.proofs.Common.{chars, encode_utf8, encode_utf8_all, IsUtf8}
use Rattle.std.proofs.Common.{count_by, nat_le, refl, ap, sym, ◌∙◌, subst, ne_eqb, arith}
use Rattle.std.proofs.lemmas.Bool.{and_parts}
use Rattle.std.proofs.lemmas.Bool.Decides.{nat_tests}
use Rattle.std.proofs.lemmas.Str.{IsUtf8-past_char, IsUtf8-take, IsCharBoundary-at_seam}
use Rattle.std.proofs.lemmas.Str.{chars-append, chars_past_char, encode_ascii}
use Rattle.std.proofs.lemmas.List.{take-append-drop}
use Rattle.std.specs.Str.{IsCharBoundary}
use Rattle.std.specs.Str.Iter.{chars_rest}
use Rattle.std.specs.declared.str.Chars.{Chars}
use Rattle.nano_text.specs.declared.place.Place.{Place}
use Rattle.nano_text.specs.Characters.{prefix, following}
use Rattle.nano_text.specs.Place.{before_nul, held, remaining, tail, text_at, begins_character}
use Rattle.nano_text.specs.Place.{is_line_feed, Passes, Moves}
use Rattle.nano_text.proofs.PlaceLaws.{passes_append, passes_none, moves_none, tail_len}
use Rattle.nano_text.specs.String.{IsString, escaped, escaped_char, is_plain, is_plain_in_line}
use Rattle.nano_text.proofs.RemainingText.{remaining_more}
use Rattle.nano_text.proofs.Passing.{begins_ascii, count_first, passed_line_unchanged, passed_col}
use Rattle.nano_text.proofs.Strings.{HasRead, nothing_read, reads_piece, reads_plain, string_read}
use Rattle.nano_text.proofs.Prefixes.{drop_prefix, prefix_boundary, take_prefix}
use Rattle.nano_text.proofs.Utf8Prefixes.{CutAfterPrefix, cut_wide, prefix-append-following}
use Rattle.nano_text.proofs.Utf8Prefixes.{prefix-before_nul, following-before_nul}

-- ---- characters that stand for themselves in their line

in_line_wide : (n : ℕ) → 128 ≤ n → is_plain_in_line n ≡ true
in_line_wide n h = grind (arith, nat_tests)

pub in_line_cut : (bytes : List ℕ) → IsUtf8 bytes → CutAfterPrefix is_plain_in_line bytes
in_line_cut bytes utf8 = cut_wide is_plain_in_line in_line_wide bytes utf8

pub in_line_plain : (c : ℕ) → is_plain_in_line c ≡ true → is_plain c ≡ true
in_line_plain c h = (and_parts (nat_le 32 c) (is_plain c) h).1

no_feed : (c : ℕ) → is_plain_in_line c ≡ true → is_line_feed c ≡ false
no_feed c h = grind (arith, nat_tests)

no_feeds : (bytes : List ℕ) → count_by is_line_feed (prefix is_plain_in_line bytes) ≡ 0
no_feeds [] = refl
no_feeds (b ∷ bs) =
    elim (is_plain_in_line b) as (λ (t : Bool). is_plain_in_line b ≡ t → count_by is_line_feed (cond t (b ∷ prefix is_plain_in_line bs) []) ≡ 0) [
      | true ↦ λ e. rw (count_first is_line_feed b (prefix is_plain_in_line bs), no_feed b e) (omega (arith, no_feeds bs))
      | false ↦ λ e. refl
    ] refl

-- ---- what is passed

-- a part without a line feed
pub passes_part : (p q r : Place) (before part bytes after : List ℕ) → Passes p before q (chars bytes) → bytes ≡ part ++ after
    → IsUtf8 part → count_by is_line_feed part ≡ 0 → q.col < 2 ^ 64 → r.line ≡ q.line
    → r.col ≡ min (q.col + count_by begins_character part) (2 ^ 64 - 1) → Passes p before r (chars after)
passes_part p q r before part bytes after h is utf8 none small line col =
    passes_append {q = q} h (record {
      taken = chars part;
      split = ap chars is ∙ chars-append part after utf8;
      line = line ∙ sym (passed_line_unchanged q part utf8 none);
      col = col ∙ sym (passed_col q part utf8 small none);
    })

-- ---- what was read at once

-- the place in this column
abbrev pub at_column : Place → ℕ → Place
at_column p col = record p { col = col }

-- the rest of the text, of which what is before it was taken and written
pub record IsReadTo (before : List ℕ) (p q : Place) (written rest : List ℕ) : Type 0 where
  pub utf8 : IsUtf8 rest
  pub read : HasRead (before_nul before) written (before_nul (chars rest))
  pub place : Passes p before q (chars rest)
  -- all that was taken is of the text
  pub within : length before + length (before_nul (chars rest)) ≡ length (before_nul before) + length (chars rest)
  pub small : q.col < 2 ^ 64

-- where place and iterator are what they were, nothing is taken
pub unmoved : (p q : Place) (i j : Chars) → q ≡ p → j ≡ i → Moves p i q j
unmoved p q i j place input = rw (place, input) (moves_none p i)

pub nothing_yet : (i : Chars) (p : Place) (written rest : List ℕ) → IsUtf8 rest → rest ≡ chars_rest i → written ≡ [] → p.col < 2 ^ 64
    → IsReadTo (held i) p p written rest
nothing_yet i p written rest utf8 is none small =
    let same : held i ≡ chars rest = sym (ap chars is) in
    record {
      utf8 = utf8;
      read = rw (none, same) (nothing_read (before_nul (chars rest)));
      place = rw same (passes_none p (chars rest));
      within = omega (arith, ap length same, ap (λ (l : List ℕ). length (before_nul l)) same);
      small = small;
    }

-- ---- a run

pub run_boundary : (rest bytes : List ℕ) (n : ℕ) → IsUtf8 rest → bytes ≡ rest → n ≡ length (prefix is_plain_in_line bytes) → IsCharBoundary rest n
run_boundary rest bytes n utf8 same count =
    prefix_boundary is_plain_in_line refl in_line_cut rest n utf8 (count ∙ ap (λ (l : List ℕ). length (prefix is_plain_in_line l)) same)

pub reads_run : (before : List ℕ) (p q r : Place) (written rest bytes part left more : List ℕ) (n columns : ℕ) → IsReadTo before p q written rest
    → bytes ≡ rest → n ≡ length (prefix is_plain_in_line bytes) → columns ≡ count_by begins_character (prefix is_plain_in_line bytes)
    → part ≡ take n rest → left ≡ drop n rest → more ≡ written ++ part
    → r.line ≡ q.line → r.col ≡ min (q.col + columns) (2 ^ 64 - 1) → IsReadTo before p r more left
reads_run before p q r written rest bytes part left more n columns h same length_is columns_are part_is left_is more_is line col =
    let test = is_plain_in_line in
    let cut = in_line_cut rest h.utf8 in
    let count = length_is ∙ ap (λ (l : List ℕ). length (prefix test l)) same in
    let run : part ≡ prefix test rest = part_is ∙ (ap (λ (k : ℕ). take k rest) count ∙ take_prefix test refl in_line_cut rest) in
    let after_run : left ≡ following test rest = left_is ∙ (ap (λ (k : ℕ). drop k rest) count ∙ drop_prefix test refl in_line_cut rest) in
    let remaining : before_nul (chars left) ≡ following test (before_nul (chars rest)) =
    ap (λ (l : List ℕ). before_nul (chars l)) after_run ∙ (ap before_nul cut.after_is ∙ sym (following-before_nul test refl (chars rest))) in
    let characters : part ≡ encode_utf8_all (prefix test (before_nul (chars rest))) =
    run ∙ (cut.prefix_is ∙ ap encode_utf8_all (sym (prefix-before_nul test refl (chars rest)))) in
    let left_chars : chars left ≡ following test (chars rest) = ap chars after_run ∙ cut.after_is in
    let utf8_part = subst IsUtf8 (sym part_is) (IsUtf8-take rest n h.utf8 (run_boundary rest bytes n h.utf8 same length_is)) in
    let split : rest ≡ part ++ left = rw (part_is, left_is) (sym (take-append-drop n rest)) in
    record {
      utf8 = subst IsUtf8 (sym after_run) cut.after_utf8;
      read = reads_plain test in_line_plain (before_nul before) written (before_nul (chars rest)) more (before_nul (chars left)) h.read remaining
          (more_is ∙ ap (λ (l : List ℕ). written ++ l) characters);
      place = passes_part p q r before part rest left h.place split utf8_part (ap (count_by is_line_feed) run ∙ no_feeds rest) h.small line
          (col ∙ ap (λ (k : ℕ). min (q.col + k) (2 ^ 64 - 1))
          (columns_are ∙ (ap (λ (l : List ℕ). count_by begins_character (prefix test l)) same ∙ ap (count_by begins_character) (sym run))));
      within = omega (
        arith,
        h.within,
        ap length left_chars,
        ap length remaining,
        ap length (prefix-before_nul test refl (chars rest)),
        ap length (prefix-append-following test (chars rest)),
        length-append (prefix test (chars rest)) (following test (chars rest)),
        ap length (prefix-append-following test (before_nul (chars rest))),
        length-append (prefix test (before_nul (chars rest))) (following test (before_nul (chars rest))),
      );
      small = omega arith;
    }

-- ---- one character of ASCII

module _ (text after : List ℕ) (c : ℕ) (utf8 : IsUtf8 text) (is : text ≡ c ∷ after) (ascii : c < 128) where
  pub utf8_after : IsUtf8 after
  utf8_after = IsUtf8-past_char text after c utf8 (rw (encode_ascii c ascii) is)

  pub chars_after : chars text ≡ c ∷ chars after
  chars_after = chars_past_char text after c utf8 (rw (encode_ascii c ascii) is)

-- ---- the closing quote

pub quote_boundary : (rest bytes after : List ℕ) → IsUtf8 rest → bytes ≡ rest → bytes ≡ 34 ∷ after → IsCharBoundary rest 1
quote_boundary rest bytes after utf8 same is =
    let quote = sym same ∙ is in
    IsCharBoundary-at_seam rest (34 ∷ []) after quote (utf8_after rest after 34 utf8 quote (omega arith))

-- the quote is taken, and then the character after it
pub string_read_at_once : (cur : ℕ) (i j : Chars) (p q : Place) (written rest bytes after last : List ℕ) → IsReadTo (held i) p q written rest
    → cur ≡ 34 → bytes ≡ rest → bytes ≡ 34 ∷ after → chars_rest j ≡ drop 1 rest → last ≡ before_nul (held j)
    → (characters : List ℕ) × IsString (remaining cur i) characters last × (written ≡ encode_utf8_all characters)
string_read_at_once cur i j p q written rest bytes after last h quote same is left last_is =
    let here : rest ≡ 34 ∷ after = sym same ∙ is in
    let after_quote : before_nul (chars rest) ≡ 34 ∷ last =
    ap before_nul (chars_after rest after 34 h.utf8 here (omega arith))
    ∙ ap (λ (l : List ℕ). 34 ∷ l) (ap (λ (l : List ℕ). before_nul (chars l)) (sym (left ∙ ap (drop 1) here)) ∙ sym last_is) in
    let whole : remaining cur i ≡ 34 ∷ before_nul (held i) =
    remaining_more cur i (λ z. omega (arith, z, quote)) ∙ ap (λ (k : ℕ). k ∷ before_nul (held i)) quote in
    string_read (remaining cur i) (before_nul (held i)) written (before_nul (chars rest)) last whole h.read after_quote

pub passes_quote : (before : List ℕ) (p q r : Place) (written rest bytes after left : List ℕ) → IsReadTo before p q written rest
    → bytes ≡ rest → bytes ≡ 34 ∷ after → left ≡ drop 1 rest
    → r.line ≡ q.line → r.col ≡ min (q.col + 1) (2 ^ 64 - 1) → Passes p before r (chars left)
passes_quote before p q r written rest bytes after left h same is left_is line col =
    let here : rest ≡ 34 ∷ after = sym same ∙ is in
    let utf8 = subst IsUtf8 (ap (take 1) here) (IsUtf8-take rest 1 h.utf8 (quote_boundary rest bytes after h.utf8 same is)) in
    passes_part p q r before (34 ∷ []) rest left h.place (here ∙ ap (λ (l : List ℕ). 34 ∷ l) (sym (left_is ∙ ap (drop 1) here))) utf8 refl h.small line col

-- all that was taken is of the text: the string, and the character after it
pub advances_quote : (i j k : Chars) (p q s : Place) (written rest bytes after : List ℕ) → IsReadTo (held i) p q written rest
    → p.cur ≡ 34 → bytes ≡ rest → bytes ≡ 34 ∷ after → chars_rest j ≡ drop 1 rest
    → held k ≡ tail (held j) → text_at s k ≡ before_nul (held j)
    → Passes p (held i) s (held k) → Moves p i s k
advances_quote i j k p q s written rest bytes after h quote same is left next_is text_is passes =
    let here : rest ≡ 34 ∷ after = sym same ∙ is in
    let all : chars rest ≡ 34 ∷ held j =
    chars_after rest after 34 h.utf8 here (omega arith)
    ∙ ap (λ (l : List ℕ). 34 ∷ chars l) (sym (left ∙ ap (drop 1) here)) in
    let remaining : before_nul (chars rest) ≡ 34 ∷ before_nul (held j) = ap before_nul all in
    let whole = ap length all in
    let texts = ap length remaining in
    let last = ap length next_is in
    let ends = ap length text_is in
    let one = tail_len (held j) in
    let more = ap length (remaining_more p.cur i (λ z. omega (arith, z, quote))) in
    let taken : length (chars rest) ≤ length (held i) = omega (arith, ap length h.place.split, length-append h.place.taken (chars rest)) in
    record {
      passes = passes;
      within = omega (arith, h.within, whole, texts, ends, more, taken);
      exact = omega (arith, h.within, whole, texts, last, ends, one, more, taken);
    }

-- ---- an escape of one character

pub escape_boundary : (rest bytes after : List ℕ) (c : ℕ) → IsUtf8 rest → bytes ≡ rest → bytes ≡ 92 ∷ (c ∷ after) → c < 128 → IsCharBoundary rest 2
escape_boundary rest bytes after c utf8 same is ascii =
    let here = sym same ∙ is in
    let after_backslash = utf8_after rest (c ∷ after) 92 utf8 here (omega arith) in
    IsCharBoundary-at_seam rest (92 ∷ (c ∷ [])) after here (utf8_after (c ∷ after) after c after_backslash refl ascii)

pub reads_escape : (before : List ℕ) (p q r : Place) (written rest bytes after left more : List ℕ) (c : ℕ) → IsReadTo before p q written rest
    → bytes ≡ rest → bytes ≡ 92 ∷ (c ∷ after) → 32 ≤ c → c < 128 → c ≢ 117 → left ≡ drop 2 rest → more ≡ written ++ encode_utf8 (escaped_char c)
    → r.line ≡ q.line → r.col ≡ min (q.col + 2) (2 ^ 64 - 1) → IsReadTo before p r more left
reads_escape before p q r written rest bytes after left more c h same is graphic ascii no_unit left_is more_is line col =
    let here : rest ≡ 92 ∷ (c ∷ after) = sym same ∙ is in
    let after_is : left ≡ after = left_is ∙ ap (drop 2) here in
    let after_backslash = utf8_after rest (c ∷ after) 92 h.utf8 here (omega arith) in
    let both : chars rest ≡ 92 ∷ (c ∷ chars left) =
    chars_after rest (c ∷ after) 92 h.utf8 here (omega arith)
    ∙ ap (λ (l : List ℕ). 92 ∷ l) (chars_after (c ∷ after) after c after_backslash refl ascii ∙ ap (λ (l : List ℕ). c ∷ chars l) (sym after_is)) in
    let remaining : before_nul (chars rest) ≡ 92 ∷ (c ∷ before_nul (chars left)) =
    ap before_nul both ∙ rw (ne_eqb c 0 (λ e. omega (arith, e, graphic))) refl in
    let utf8 = subst IsUtf8 (ap (take 2) here) (IsUtf8-take rest 2 h.utf8 (escape_boundary rest bytes after c h.utf8 same is ascii)) in
    let none : count_by is_line_feed (92 ∷ (c ∷ [])) ≡ 0 = rw (count_first is_line_feed c [], ne_eqb c 10 (λ e. omega (arith, e, graphic))) refl in
    let two : count_by begins_character (92 ∷ (c ∷ [])) ≡ 2 = rw (count_first begins_character 92 (c ∷ []), count_first begins_character c [], begins_ascii c ascii) refl in
    record {
      utf8 = subst IsUtf8 (sym after_is) (utf8_after (c ∷ after) after c after_backslash refl ascii);
      read = reads_piece (before_nul before) written (before_nul (chars rest)) more (before_nul (chars left)) (escaped c) h.read
          (no_unit, λ e. omega (arith, e, graphic)) remaining more_is;
      place = passes_part p q r before (92 ∷ (c ∷ [])) rest left h.place (here ∙ ap (λ (l : List ℕ). 92 ∷ (c ∷ l)) (sym after_is)) utf8 none h.small line
          (col ∙ ap (λ (k : ℕ). min (q.col + k) (2 ^ 64 - 1)) (sym two));
      within = omega (arith, h.within, ap length both, ap length remaining);
      small = omega arith;
    }
