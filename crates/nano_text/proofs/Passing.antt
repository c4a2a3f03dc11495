-- A run that is passed at once: its bytes count the lines and columns that its characters do.
use Rattle.std.proofs.Common.{◌≡◌, ◌≢◌, ℕ, suc, ◌+◌, ◌-◌, ◌%◌, ◌^◌, ◌<◌, ◌≤◌, min, List, [], ◌∷◌}
use Rattle.std.proofs.Common.{◌++◌, Bool, true, false, cond, ltb, length, get_or, chars}
use Rattle.std.proofs.Common.{encode_utf8_all, IsUtf8, ne_eqb, refl, ap, sym, ◌∙◌, arith, count_by}
use Rattle.std.proofs.Math.Utf8.{encode}
use Rattle.std.specs.List.{AllByRecursion}
use Rattle.std.proofs.lemmas.Bool.{ltb-false, ltb-true, le-ltb}
use Rattle.std.proofs.lemmas.Bool.Decides.{nat_tests}
use Rattle.std.proofs.lemmas.List.Sums.{sum_by-cons}
use Rattle.std.proofs.lemmas.Str.{encode_ascii, encodes-chars}
use Rattle.std.proofs.Math.Nat.{min-le_right}
use Rattle.nano_text.specs.declared.place.Place.{Place}
use Rattle.nano_text.specs.Place.{begins_character, saturating_next, is_line_feed, passed}
use Rattle.nano_text.specs.Place.{place_after}
use Rattle.nano_text.proofs.Utf8Prefixes.{of_each}

-- ---- line and column after bytes that are taken one by one

abbrev line_after : ℕ → List ℕ → ℕ
line_after n [] = n
line_after n (b ∷ bs) = line_after (cond (is_line_feed b) (saturating_next n) n) bs

abbrev col_after : ℕ → List ℕ → ℕ
col_after n [] = n
col_after n (b ∷ bs) = col_after (cond (is_line_feed b) 0 (cond (begins_character b) (saturating_next n) n)) bs

-- ---- the bytes of a character

abbrev pub GoesOn : ℕ → Type 0
GoesOn b = (128 ≤ b) × (b < 192)

no_feed : (b : ℕ) → 128 ≤ b → is_line_feed b ≡ false
no_feed b h = ne_eqb b 10 (λ e. omega arith)

begins_none : (b : ℕ) → GoesOn b → begins_character b ≡ false
begins_none b h =
    let low = h.0 in
    let high = h.1 in
    grind (arith, nat_tests)

begins_wide : (b : ℕ) → 192 ≤ b → begins_character b ≡ true
begins_wide b h = grind (arith, nat_tests)

pub begins_ascii : (b : ℕ) → b < 128 → begins_character b ≡ true
begins_ascii b h = grind (arith, nat_tests)

-- beyond ASCII one byte begins a character, and the others go on with it
pub record IsWide (bytes : List ℕ) : Type 0 where
  pub first : ℕ
  pub others : List ℕ
  pub split : bytes ≡ first ∷ others
  pub begins : 192 ≤ first
  pub go_on : AllByRecursion GoesOn others

low_bits : (n : ℕ) → GoesOn (128 + n % 64)
low_bits n = (omega arith, omega arith)

pub wide : (c : ℕ) → 128 ≤ c → IsWide (encode c)
unfolding encode
wide c h =
    rw (le-ltb c 128 h) (of_each IsWide (ltb c 2048) (ltb c 65536) _ _ _
    (record { first = _; others = _; split = refl; begins = omega arith; go_on = (low_bits _, tt) })
    (record { first = _; others = _; split = refl; begins = omega arith; go_on = (low_bits _, (low_bits _, tt)) })
    (record { first = _; others = _; split = refl; begins = omega arith; go_on = (low_bits _, (low_bits _, (low_bits _, tt))) }))

-- one byte
line_one : (n b : ℕ) (bs : List ℕ) (feed : Bool) → is_line_feed b ≡ feed
    → line_after n (b ∷ bs) ≡ line_after (cond feed (saturating_next n) n) bs
line_one n b bs feed e = ap (λ (t : Bool). line_after (cond t (saturating_next n) n) bs) e

col_one : (n b : ℕ) (bs : List ℕ) (feed begins : Bool) → is_line_feed b ≡ feed → begins_character b ≡ begins
    → col_after n (b ∷ bs) ≡ col_after (cond feed 0 (cond begins (saturating_next n) n)) bs
col_one n b bs feed begins e f =
    ap (λ (t : Bool). col_after (cond t 0 (cond (begins_character b) (saturating_next n) n)) bs) e
    ∙ ap (λ (t : Bool). col_after (cond feed 0 (cond t (saturating_next n) n)) bs) f

-- bytes that go on with a character count nothing
line_goes_on : (n : ℕ) (bs rest : List ℕ) → AllByRecursion GoesOn bs → line_after n (bs ++ rest) ≡ line_after n rest
line_goes_on n [] rest h = refl
line_goes_on n (b ∷ bs) rest h = line_one n b (bs ++ rest) false (no_feed b h.0.0) ∙ line_goes_on n bs rest h.1

col_goes_on : (n : ℕ) (bs rest : List ℕ) → AllByRecursion GoesOn bs → col_after n (bs ++ rest) ≡ col_after n rest
col_goes_on n [] rest h = refl
col_goes_on n (b ∷ bs) rest h =
    col_one n b (bs ++ rest) false false (no_feed b h.0.0) (begins_none b h.0) ∙ col_goes_on n bs rest h.1

-- those of a character beyond ASCII count one column
line_of_wide : (n : ℕ) (bytes rest : List ℕ) → IsWide bytes → line_after n (bytes ++ rest) ≡ line_after n rest
line_of_wide n bytes rest w =
    ap (λ (l : List ℕ). line_after n (l ++ rest)) w.split
    ∙ (line_one n w.first (w.others ++ rest) false (no_feed w.first (omega (arith, w.begins)))
    ∙ line_goes_on n w.others rest w.go_on)

col_of_wide : (n : ℕ) (bytes rest : List ℕ) → IsWide bytes → col_after n (bytes ++ rest) ≡ col_after (saturating_next n) rest
col_of_wide n bytes rest w =
    ap (λ (l : List ℕ). col_after n (l ++ rest)) w.split
    ∙ (col_one n w.first (w.others ++ rest) false true (no_feed w.first (omega (arith, w.begins))) (begins_wide w.first w.begins)
    ∙ col_goes_on (saturating_next n) w.others rest w.go_on)

-- those of any character count it once
line_of_one : (n c : ℕ) (rest : List ℕ)
    → line_after n (encode c ++ rest) ≡ line_after (cond (is_line_feed c) (saturating_next n) n) rest
line_of_one n c rest =
    elim (ltb c 128) as (λ (b : Bool). ltb c 128 ≡ b →
    line_after n (encode c ++ rest) ≡ line_after (cond (is_line_feed c) (saturating_next n) n) rest) [
      | true ↦ λ e. ap (λ (l : List ℕ). line_after n (l ++ rest)) (encode_ascii c (ltb-true c 128 e))
      | false ↦ λ e.
          let high = ltb-false c 128 e in
          line_of_wide n (encode c) rest (wide c high)
          ∙ ap (λ (t : Bool). line_after (cond t (saturating_next n) n) rest) (sym (no_feed c high))
    ] refl

col_of_one : (n c : ℕ) (rest : List ℕ)
    → col_after n (encode c ++ rest) ≡ col_after (cond (is_line_feed c) 0 (saturating_next n)) rest
col_of_one n c rest =
    elim (ltb c 128) as (λ (b : Bool). ltb c 128 ≡ b →
    col_after n (encode c ++ rest) ≡ col_after (cond (is_line_feed c) 0 (saturating_next n)) rest) [
      | true ↦ λ e.
          let low = ltb-true c 128 e in
          ap (λ (l : List ℕ). col_after n (l ++ rest)) (encode_ascii c low)
          ∙ col_one n c rest (is_line_feed c) true refl (begins_ascii c low)
      | false ↦ λ e.
          let high = ltb-false c 128 e in
          col_of_wide n (encode c) rest (wide c high)
          ∙ ap (λ (t : Bool). col_after (cond t 0 (saturating_next n)) rest) (sym (no_feed c high))
    ] refl

abbrev after_one : Place → ℕ → Bool → Place
after_one p c feed =
    cond feed (record { cur = c; line = saturating_next p.line; col = 0 }) (record { cur = c; line = p.line; col = saturating_next p.col })

line_of_place : (p : Place) (c : ℕ) → (place_after p (c ∷ [])).line ≡ cond (is_line_feed c) (saturating_next p.line) p.line
line_of_place p c =
    elim (is_line_feed c) as (λ (b : Bool). (after_one p c b).line ≡ cond b (saturating_next p.line) p.line) [ true ↦ refl | false ↦ refl ]

col_of_place : (p : Place) (c : ℕ) → (place_after p (c ∷ [])).col ≡ cond (is_line_feed c) 0 (saturating_next p.col)
col_of_place p c =
    elim (is_line_feed c) as (λ (b : Bool). (after_one p c b).col ≡ cond b 0 (saturating_next p.col)) [ true ↦ refl | false ↦ refl ]

-- so the bytes of a text count what its characters do
line_of_bytes : (p : Place) (cs : List ℕ) → (passed p cs).line ≡ line_after p.line (encode_utf8_all cs)
line_of_bytes p [] = refl
line_of_bytes p (c ∷ cs) =
    line_of_bytes (place_after p (c ∷ [])) cs
    ∙ (ap (λ (n : ℕ). line_after n (encode_utf8_all cs)) (line_of_place p c) ∙ sym (line_of_one p.line c (encode_utf8_all cs)))

col_of_bytes : (p : Place) (cs : List ℕ) → (passed p cs).col ≡ col_after p.col (encode_utf8_all cs)
col_of_bytes p [] = refl
col_of_bytes p (c ∷ cs) =
    col_of_bytes (place_after p (c ∷ [])) cs
    ∙ (ap (λ (n : ℕ). col_after n (encode_utf8_all cs)) (col_of_place p c) ∙ sym (col_of_one p.col c (encode_utf8_all cs)))

-- ---- bytes that are counted at once

abbrev pub first_counts : (ℕ → Bool) → ℕ → ℕ
first_counts test b = cond (test b) 1 0

pub count_first : (test : ℕ → Bool) (b : ℕ) (bs : List ℕ) → count_by test (b ∷ bs) ≡ first_counts test b + count_by test bs
count_first test b bs = sum_by-cons (first_counts test) b bs

line_saturates : (n : ℕ) (bs : List ℕ) → n ≤ 2 ^ 64 - 1 → line_after n bs ≡ min (n + count_by is_line_feed bs) (2 ^ 64 - 1)
line_saturates n [] small = omega arith
line_saturates n (b ∷ bs) small =
    rw (count_first is_line_feed b bs) (elim (is_line_feed b) as (λ (t : Bool).
    line_after (cond t (saturating_next n) n) bs ≡ min (n + (cond t 1 0 + count_by is_line_feed bs)) (2 ^ 64 - 1)) [
      | true ↦ omega (arith, line_saturates (saturating_next n) bs (min-le_right (n + 1) (2 ^ 64 - 1)))
      | false ↦ omega (arith, line_saturates n bs small)
    ])

line_unchanged : (n : ℕ) (bs : List ℕ) → count_by is_line_feed bs ≡ 0 → line_after n bs ≡ n
line_unchanged n [] none = refl
line_unchanged n (b ∷ bs) none =
    elim (is_line_feed b) as (λ (t : Bool).
    cond t 1 0 + count_by is_line_feed bs ≡ 0 → line_after (cond t (saturating_next n) n) bs ≡ n) [
      | true ↦ λ e. absurd (omega (arith, e))
      | false ↦ λ e. line_unchanged n bs (omega (arith, e))
    ] (sym (count_first is_line_feed b bs) ∙ none)

col_saturates : (n : ℕ) (bs : List ℕ) → n ≤ 2 ^ 64 - 1 → count_by is_line_feed bs ≡ 0
    → col_after n bs ≡ min (n + count_by begins_character bs) (2 ^ 64 - 1)
col_saturates n [] small none = omega arith
col_saturates n (b ∷ bs) small none =
    rw (count_first begins_character b bs) (elim (is_line_feed b) as (λ (t : Bool).
    cond t 1 0 + count_by is_line_feed bs ≡ 0
    → col_after (cond t 0 (cond (begins_character b) (saturating_next n) n)) bs
    ≡ min (n + (first_counts begins_character b + count_by begins_character bs)) (2 ^ 64 - 1)) [
      | true ↦ λ e. absurd (omega (arith, e))
      | false ↦ λ e. elim (begins_character b) as (λ (t : Bool). col_after (cond t (saturating_next n) n) bs
          ≡ min (n + (cond t 1 0 + count_by begins_character bs)) (2 ^ 64 - 1)) [
            | true ↦ omega (arith, col_saturates (saturating_next n) bs (min-le_right (n + 1) (2 ^ 64 - 1)) (omega (arith, e)))
            | false ↦ omega (arith, col_saturates n bs small (omega (arith, e)))
          ]
    ] (sym (count_first is_line_feed b bs) ∙ none))

-- the column restarts after a line feed
col_anew : (n : ℕ) (before line : List ℕ) → col_after n (before ++ 10 ∷ line) ≡ col_after 0 line
col_anew n [] line = refl
col_anew n (b ∷ bs) line = col_anew (cond (is_line_feed b) 0 (cond (begins_character b) (saturating_next n) n)) bs line

-- ---- what a run passes

module _ (p : Place) (text : List ℕ) (utf8 : IsUtf8 text) where
  pub passed_line : p.line < 2 ^ 64 → (passed p (chars text)).line ≡ min (p.line + count_by is_line_feed text) (2 ^ 64 - 1)
  passed_line small =
      line_of_bytes p (chars text) ∙ (ap (line_after p.line) (encodes-chars text utf8) ∙ line_saturates p.line text (omega (arith, small)))

  pub passed_line_unchanged : count_by is_line_feed text ≡ 0 → (passed p (chars text)).line ≡ p.line
  passed_line_unchanged none =
      line_of_bytes p (chars text) ∙ (ap (line_after p.line) (encodes-chars text utf8) ∙ line_unchanged p.line text none)

  pub passed_col : p.col < 2 ^ 64 → count_by is_line_feed text ≡ 0
      → (passed p (chars text)).col ≡ min (p.col + count_by begins_character text) (2 ^ 64 - 1)
  passed_col small none =
      col_of_bytes p (chars text) ∙ (ap (col_after p.col) (encodes-chars text utf8) ∙ col_saturates p.col text (omega (arith, small)) none)

  pub passed_col_anew : (before line : List ℕ) → text ≡ before ++ 10 ∷ line → count_by is_line_feed line ≡ 0
      → count_by begins_character line < 2 ^ 64 → (passed p (chars text)).col ≡ count_by begins_character line
  passed_col_anew before line split none small =
      col_of_bytes p (chars text)
      ∙ (ap (col_after p.col) (encodes-chars text utf8 ∙ split)
      ∙ (col_anew p.col before line ∙ (col_saturates 0 line (omega arith) none ∙ omega (arith, small))))

-- ---- the last line feed

pub no_feeds : (bs : List ℕ) → ((i : ℕ) → i < length bs → get_or bs i 0 ≢ 10) → count_by is_line_feed bs ≡ 0
no_feeds [] h = refl
no_feeds (b ∷ bs) h =
    rw (count_first is_line_feed b bs, ne_eqb b 10 (h 0 (omega arith)))
    (omega (arith, no_feeds bs (λ i k. h (suc i) (omega (arith, k)))))
