-- Bytes in a line: none is a control character, and each is one character and one column.
use Rattle.std.proofs.Common.{◌≡◌, ℕ, suc, ◌+◌, ◌-◌, ◌%◌, ◌^◌, ◌<◌, min, List, [], ◌∷◌, ◌++◌, Bool}
use Rattle.std.proofs.Common.{true, false, cond, ltb, length, get_or, chars, encode_utf8_all}
use Rattle.std.proofs.Common.{IsUtf8, ne_eqb, refl, ap, sym, ◌∙◌, subst, arith, count_by, bit_or}
use Rattle.std.proofs.Common.{None, ◌||◌}
use Rattle.std.proofs.Math.Utf8.{encode}
use Rattle.std.specs.List.{AllByRecursion, AllWithin}
use Rattle.std.proofs.lemmas.Bool.{ltb-false, ltb-true}
use Rattle.std.proofs.lemmas.List.{get_or_default}
use Rattle.std.proofs.lemmas.List.Elements.{AllWithin-more}
use Rattle.std.proofs.lemmas.Nat.{le_or_l, le_or_r}
use Rattle.std.proofs.lemmas.Str.{encode_ascii, encodes-chars}
use Rattle.nano_text.specs.declared.place.Place.{Place}
use Rattle.nano_text.proofs.LaneMasks.{all_split}
use Rattle.nano_text.specs.Characters.{prefix, first_is}
use Rattle.nano_text.specs.Place.{IsInLine, begins_character, is_line_feed, passed}
use Rattle.nano_text.proofs.Passing.{wide, count_first, begins_ascii, passed_line_unchanged}
use Rattle.nano_text.proofs.Passing.{passed_col}
use Rattle.nano_text.specs.Number.{is_point, is_letter_e}
use Rattle.nano_text.specs.Scan.{first_if, after_one, fraction_at, after_fraction, exponent_at}
use Rattle.nano_text.specs.Scan.{after_exponent}

-- ---- bits that are taken together by `|`

-- a byte less the space is below 128 where the byte is in a line
low_bits : (b : ℕ) → b < 256 → (b + 224) % 256 < 128 → IsInLine b
low_bits b small low = (omega (arith, small, low), omega (arith, small, low))

pub in_line_more : (bits n : ℕ) (bytes : List ℕ) → n < length bytes → get_or bytes n 0 < 256
    → (bits < 128 → AllWithin IsInLine bytes 0 n) → bit_or bits ((get_or bytes n 0 + 224) % 256) < 128
    → AllWithin IsInLine bytes 0 (n + 1)
in_line_more bits n bytes within small so_far low =
    let here = low_bits (get_or bytes n 0) small (omega (arith, low, le_or_r bits ((get_or bytes n 0 + 224) % 256))) in
    let before = so_far (omega (arith, low, le_or_l bits ((get_or bytes n 0 + 224) % 256))) in
    AllWithin-more IsInLine bytes 0 n before (λ d. subst IsInLine (get_or_default bytes n 0 d within) here)

-- ---- what they count

no_feed_in_line : (bytes : List ℕ) → AllByRecursion IsInLine bytes → count_by is_line_feed bytes ≡ 0
no_feed_in_line [] h = refl
no_feed_in_line (b ∷ bs) h =
    let first = h.0.0 in
    rw (count_first is_line_feed b bs, ne_eqb b 10 (λ e. omega (arith, e, first))) (omega (arith, no_feed_in_line bs h.1))

all_begin : (cs : List ℕ) → AllByRecursion IsInLine (encode_utf8_all cs)
    → count_by begins_character (encode_utf8_all cs) ≡ length (encode_utf8_all cs)
all_begin [] h = refl
all_begin (c ∷ cs) h =
    let both = all_split IsInLine (encode c) (encode_utf8_all cs) h in
    elim (ltb c 128) as (λ (b : Bool). ltb c 128 ≡ b →
    count_by begins_character (encode c ++ encode_utf8_all cs) ≡ length (encode c ++ encode_utf8_all cs)) [
      | true ↦ λ e.
          let low = ltb-true c 128 e in
          rw (encode_ascii c low) (count_first begins_character c (encode_utf8_all cs)
          ∙ rw (begins_ascii c low) (omega (arith, all_begin cs both.1)))
      | false ↦ λ e.
          let w = wide c (ltb-false c 128 e) in
          let first = (subst (AllByRecursion IsInLine) w.split both.0).0 in
          absurd (omega (arith, first.1, w.begins))
    ] refl

-- a run in a line takes as many columns as it has bytes
pub in_line_line : (p : Place) (text : List ℕ) → IsUtf8 text → AllByRecursion IsInLine text
    → (passed p (chars text)).line ≡ p.line
in_line_line p text utf8 h = passed_line_unchanged p text utf8 (no_feed_in_line text h)

pub in_line_col : (p : Place) (text : List ℕ) → IsUtf8 text → AllByRecursion IsInLine text → p.col < 2 ^ 64
    → (passed p (chars text)).col ≡ min (p.col + length text) (2 ^ 64 - 1)
in_line_col p text utf8 h small =
    let is = encodes-chars text utf8 in
    let all = ap (count_by begins_character) (sym is)
    ∙ (all_begin (chars text) (subst (AllByRecursion IsInLine) (sym is) h) ∙ ap length is) in
    passed_col p text utf8 small (no_feed_in_line text h) ∙ ap (λ (n : ℕ). min (p.col + n) (2 ^ 64 - 1)) all

-- ---- a prefix in a line

-- the first bytes of a prefix
pub taken_in_line : (test : ℕ → Bool) (bytes : List ℕ) → AllWithin IsInLine bytes 0 (length (prefix test bytes))
    → AllByRecursion IsInLine (prefix test bytes)
taken_in_line test [] h = tt
taken_in_line test (b ∷ bs) h =
    elim (test b) as (λ (t : Bool). AllWithin IsInLine (b ∷ bs) 0 (length (cond t (b ∷ prefix test bs) []))
    → AllByRecursion IsInLine (cond t (b ∷ prefix test bs) [])) [
      | true ↦ λ k. (k 0 b (omega arith) (omega arith), taken_in_line test bs (λ i d low high. k (suc i) d (omega arith) (omega (arith, high))))
      | false ↦ λ k. tt
    ] h

pub prefix_in_line : (test : ℕ → Bool) → ((b : ℕ) → test b ≡ true → IsInLine b) → (bytes : List ℕ)
    → AllByRecursion IsInLine (prefix test bytes)
prefix_in_line test is [] = tt
prefix_in_line test is (b ∷ bs) =
    elim (test b) as (λ (t : Bool). test b ≡ t → AllByRecursion IsInLine (cond t (b ∷ prefix test bs) [])) [
      | true ↦ λ e. (is b e, prefix_in_line test is bs)
      | false ↦ λ e. tt
    ] refl

-- ==== where a run stops

pub first_stop : (p : ℕ → Bool) (t : List ℕ) → first_is p t ≡ false → first_if p t ≡ None
first_stop p [] e = refl
first_stop p (c ∷ cs) e = rw e refl

pub one_stop : (p : ℕ → Bool) (t : List ℕ) → first_is p t ≡ false → after_one p t ≡ t
one_stop p [] e = refl
one_stop p (c ∷ cs) e = rw e refl

pub fraction_stop : (t : List ℕ) → first_is is_point t ≡ false → fraction_at t ≡ None
fraction_stop [] e = refl
fraction_stop (c ∷ cs) e = rw e refl

pub after_fraction_stop : (t : List ℕ) → first_is is_point t ≡ false → after_fraction t ≡ t
after_fraction_stop [] e = refl
after_fraction_stop (c ∷ cs) e = rw e refl

pub exponent_stop : (t : List ℕ) → first_is is_letter_e t ≡ false → exponent_at t ≡ None
exponent_stop [] e = refl
exponent_stop (c ∷ cs) e = rw e refl

pub after_exponent_stop : (t : List ℕ) → first_is is_letter_e t ≡ false → after_exponent t ≡ t
after_exponent_stop [] e = refl
after_exponent_stop (c ∷ cs) e = rw e refl

pub or_false : (a b : Bool) → a || b ≡ false → b ≡ false
or_false true b e = cc
or_false false b e = e
