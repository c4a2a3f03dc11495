-- The place after one more character.
use Rattle.std.proofs.Common.{subst, chars, ◌≡◌, ◌≢◌, ℕ, ◌+◌, ◌<◌, ◌≤◌, ◌==◌, not, List, [], ◌∷◌}
use Rattle.std.proofs.Common.{◌++◌, length, Fits, w64, filter, reverse, true, false, Bool, cond}
use Rattle.std.proofs.Common.{refl, arith, ne_eqb}
use Rattle.std.proofs.lemmas.List.{reverse-append, length-append, length-reverse}
use Rattle.std.proofs.lemmas.Str.{length-le-encodes, chars-encodes}
use Rattle.std.specs.Str.{IsUtf8}
use Rattle.std.specs.Prelude.{encode_utf8_all}
use Rattle.std.proofs.lemmas.List.Elements.{filter-append}
use Rattle.derive_source.specs.Place.{is_line_feed, line_of, column_of, prefix}

pub line_of-feed : (cs : List ℕ) (c : ℕ) → c ≡ 10 → line_of (cs ++ c ∷ []) ≡ line_of cs + 1
line_of-feed cs c e = rw (e, filter-append is_line_feed cs (10 ∷ []), length-append (filter is_line_feed cs) (10 ∷ [])) refl

pub line_of-other : (cs : List ℕ) (c : ℕ) → c ≢ 10 → line_of (cs ++ c ∷ []) ≡ line_of cs
line_of-other cs c n =
    let e : (c == 10) ≡ false = ne_eqb c 10 n in
    rw (filter-append is_line_feed cs (c ∷ []), length-append (filter is_line_feed cs) (filter is_line_feed (c ∷ [])), e) (omega arith)

pub column_of-feed : (cs : List ℕ) (c : ℕ) → c ≡ 10 → column_of (cs ++ c ∷ []) ≡ 0
column_of-feed cs c e = rw (e, reverse-append cs (10 ∷ [])) refl

pub column_of-other : (cs : List ℕ) (c : ℕ) → c ≢ 10 → column_of (cs ++ c ∷ []) ≡ column_of cs + 1
column_of-other cs c n =
    let e : (c == 10) ≡ false = ne_eqb c 10 n in
    rw (reverse-append cs (c ∷ []), e) (omega arith)

prefix_not_longer : (p : ℕ → Bool) (t : List ℕ) → length (prefix p t) ≤ length t
prefix_not_longer p [] = omega arith
prefix_not_longer p (c ∷ cs) = elim (p c) as (λ (b : Bool). length (cond b (c ∷ prefix p cs) []) ≤ length (c ∷ cs)) [ true ↦ omega (arith, prefix_not_longer p cs) | false ↦ omega arith ]

filter_not_longer : (p : ℕ → Bool) (t : List ℕ) → length (filter p t) ≤ length t
filter_not_longer p [] = omega arith
filter_not_longer p (c ∷ cs) = elim (p c) as (λ (b : Bool). length (cond b (c ∷ filter p cs) (filter p cs)) ≤ length (c ∷ cs)) [ true ↦ omega (arith, filter_not_longer p cs) | false ↦ omega (arith, filter_not_longer p cs) ]

-- a count of characters of a text fits in 64 bits, with one more
pub line_fits : (seen all : List ℕ) (line : ℕ) → length seen < length all → line ≡ line_of seen → Fits w64 (length all) → Fits w64 (line + 1)
line_fits seen all line more e fits = omega (arith, filter_not_longer is_line_feed seen)

pub column_fits : (seen all : List ℕ) (column : ℕ) → length seen < length all → column ≡ column_of seen → Fits w64 (length all) → Fits w64 (column + 1)
column_fits seen all column more e fits =
    omega (arith, prefix_not_longer (λ c. not (is_line_feed c)) (reverse seen), length-reverse seen)

-- a text has no more characters than bytes
pub length_chars : (bs : List ℕ) → IsUtf8 bs → length (chars bs) ≤ length bs
length_chars bs (cs, (ok, e)) =
    let P : List ℕ → Type 0 = λ b. length (chars b) ≤ length b in
    let one : length (chars (encode_utf8_all cs)) ≤ length (encode_utf8_all cs) = rw (chars-encodes cs ok) (length-le-encodes cs) in
    subst P e one
