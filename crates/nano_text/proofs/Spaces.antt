-- White space: an indent is ASCII, and each blank of it is one column.
use Rattle.std.proofs.Common.{◌≡◌, ◌≢◌, ℕ, ◌<◌, ◌≤◌, Bool, true, false, cond, List, [], ◌∷◌}
use Rattle.std.proofs.Common.{refl, sym, ◌∙◌, subst, ap, length, arith, ◌+◌, ◌^◌, ◌-◌, min}
use Rattle.std.proofs.Common.{IsUtf8, chars, count_by, take, drop, get_or, inl, inr}
use Rattle.std.proofs.lemmas.Bool.{cases_lt}
use Rattle.std.proofs.lemmas.Bool.Decides.{nat_tests}
use Rattle.std.proofs.lemmas.List.{take_at}
use Rattle.std.proofs.lemmas.Str.{IsUtf8-take}
use Rattle.std.specs.Str.Iter.{chars_rest}
use Rattle.std.specs.declared.str.Chars.{Chars}
use Rattle.nano_text.specs.declared.place.Place.{Place}
use Rattle.nano_text.specs.Characters.{first_is, following, prefix, is_space}
use Rattle.nano_text.specs.Place.{held, remaining, before_nul, passed, Passes, is_line_feed}
use Rattle.nano_text.specs.Place.{begins_character}
use Rattle.nano_text.specs.Scan.{is_blank}
use Rattle.nano_text.proofs.Prefixes.{prefix_split, remaining_after, passes_prefix}
use Rattle.nano_text.proofs.RemainingText.{remaining_more, first_is-remaining}
use Rattle.nano_text.proofs.Passing.{count_first, begins_ascii, passed_line_unchanged, passed_col}
use Rattle.nano_text.proofs.Utf8Prefixes.{CutAfterPrefix, cut_narrow, prefix-append-following}

pub after_fewer : (test : ℕ → Bool) (text : List ℕ) → length (following test text) ≤ length text
after_fewer test [] = omega arith
after_fewer test (c ∷ cs) = elim (test c) as (λ (b : Bool). length (cond b (following test cs) (c ∷ cs)) ≤ length (c ∷ cs)) [
  | true ↦ omega (arith, after_fewer test cs)
  | false ↦ omega arith
]

narrow : (n : ℕ) → 128 ≤ n → is_blank n ≡ false
narrow n h = grind (arith, nat_tests)

-- a text is cut after its prefix of blanks
pub blank_cut : (bytes : List ℕ) → IsUtf8 bytes → CutAfterPrefix is_blank bytes
blank_cut bytes utf8 = cut_narrow is_blank narrow bytes utf8

-- blanks up to a place and from it on are blanks
pub blank_to : (bytes : List ℕ) (n m : ℕ) → ((k : ℕ) → k < n → is_blank (get_or bytes k 0) ≡ true)
    → ((k : ℕ) → n ≤ k → k < n + m → is_blank (get_or bytes k 0) ≡ true)
    → (k : ℕ) → k < n + m → is_blank (get_or bytes k 0) ≡ true
blank_to bytes n m before after k less =
    elim (cases_lt k n) [
      | inl low ↦ before k low
      | inr high ↦ after k (omega (arith, high)) less
    ]

-- ---- each blank is white space, and one column

blank_is_space : (c : ℕ) → is_blank c ≡ true → is_space c ≡ true
blank_is_space c h = grind (arith, nat_tests)

no_feed : (b : ℕ) → is_blank b ≡ true → is_line_feed b ≡ false
no_feed b h = grind (arith, nat_tests)

in_ascii : (b : ℕ) → is_blank b ≡ true → b < 128
in_ascii b h = grind (arith, nat_tests)

no_feeds : (text : List ℕ) → count_by is_line_feed (prefix is_blank text) ≡ 0
no_feeds [] = refl
no_feeds (b ∷ bs) =
    elim (is_blank b) as (λ (t : Bool). is_blank b ≡ t → count_by is_line_feed (cond t (b ∷ prefix is_blank bs) []) ≡ 0) [
      | true ↦ λ e. rw (count_first is_line_feed b (prefix is_blank bs), no_feed b e) (omega (arith, no_feeds bs))
      | false ↦ λ e. refl
    ] refl

all_begin : (text : List ℕ) → count_by begins_character (prefix is_blank text) ≡ length (prefix is_blank text)
all_begin [] = refl
all_begin (b ∷ bs) =
    elim (is_blank b) as (λ (t : Bool). is_blank b ≡ t
    → count_by begins_character (cond t (b ∷ prefix is_blank bs) []) ≡ length (cond t (b ∷ prefix is_blank bs) [])) [
      | true ↦ λ e. rw (count_first begins_character b (prefix is_blank bs), begins_ascii b (in_ascii b e)) (omega (arith, all_begin bs))
      | false ↦ λ e. refl
    ] refl

-- ---- a run of them is passed at once

module _ (n : ℕ) (before after : Chars) (text : List ℕ) (utf8 : IsUtf8 text) (is : text ≡ chars_rest before)
    (count : n ≡ length (prefix is_blank text)) (left : chars_rest after ≡ drop n text) where
  -- the remaining input after it
  pub remaining_blanks : before_nul (held after) ≡ following is_blank (before_nul (held before))
  remaining_blanks =
      remaining_after is_blank refl blank_cut 32 n before after text refl utf8 is count left
      ∙ ap (following is_blank) (remaining_more 32 before (λ e. cc e))

  -- what passes it and goes on after it
  pub passes_blanks : (p q r : Place) (last : List ℕ) → p.col < 2 ^ 64
      → q.line ≡ p.line → q.col ≡ min (p.col + n) (2 ^ 64 - 1)
      → Passes q (held after) r last → Passes p (held before) r last
  passes_blanks p q r last small line col goes_on =
      let run = prefix is_blank text in
      let taken : take n text ≡ run = ap (λ (k : ℕ). take k text) count
      ∙ (ap (take (length run)) (sym (prefix-append-following is_blank text)) ∙ take_at run (following is_blank text) (length run) refl) in
      let cut = (blank_cut text utf8).boundary in
      let run_utf8 : IsUtf8 run = subst IsUtf8 (ap (λ (k : ℕ). take k text) (sym count) ∙ taken) (IsUtf8-take text (length run) utf8 cut) in
      passes_prefix is_blank refl blank_cut p q r n before after text last utf8 is count left
      (line ∙ sym (ap (λ (bs : List ℕ). (passed p (chars bs)).line) taken ∙ passed_line_unchanged p run run_utf8 (no_feeds text)))
      (col ∙ (ap (λ (k : ℕ). min (p.col + k) (2 ^ 64 - 1)) (count ∙ sym (all_begin text))
      ∙ sym (ap (λ (bs : List ℕ). (passed p (chars bs)).col) taken ∙ passed_col p run run_utf8 small (no_feeds text)))) goes_on

-- ---- what is after white space

blanks_are_space : (text : List ℕ) → following is_space (following is_blank text) ≡ following is_space text
blanks_are_space [] = refl
blanks_are_space (c ∷ cs) =
    elim (is_blank c) as (λ (t : Bool). is_blank c ≡ t
    → following is_space (cond t (following is_blank cs) (c ∷ cs)) ≡ cond (is_space c) (following is_space cs) (c ∷ cs)) [
      | true ↦ λ e. rw (blank_is_space c e) (blanks_are_space cs)
      | false ↦ λ e. refl
    ] refl

no_nul : (c : ℕ) → is_space c ≡ true → c ≢ 0
no_nul c h e = let no : is_space 0 ≡ true = subst (λ (n : ℕ). is_space n ≡ true) e h in cc no

-- it is the same after a character of it and the blanks that follow, and less is left
pub space_over : (cur : ℕ) (i : Chars) (rest : List ℕ) → is_space cur ≡ true → rest ≡ following is_blank (before_nul (held i))
    → following is_space rest ≡ following is_space (remaining cur i)
space_over cur i rest h is =
    ap (following is_space) is
    ∙ (blanks_are_space (before_nul (held i)) ∙ sym (ap (following is_space) (remaining_more cur i (no_nul cur h)) ∙ rw h refl))

pub space_fewer : (cur : ℕ) (i : Chars) (rest : List ℕ) → is_space cur ≡ true → rest ≡ following is_blank (before_nul (held i))
    → length rest < length (remaining cur i)
space_fewer cur i rest h is =
    omega (arith, ap length is, after_fewer is_blank (before_nul (held i)), ap length (remaining_more cur i (no_nul cur h)))

-- no white space stands after white space
pub no_space : (cur : ℕ) (i : Chars) (text : List ℕ) → remaining cur i ≡ following is_space text → is_space cur ≡ false
no_space cur i text is =
    sym (first_is-remaining is_space cur i refl) ∙ (ap (first_is is_space) is ∙ (prefix_split is_space text).2)
