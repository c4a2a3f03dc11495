-- The place after one more character.
use Rattle.std.proofs.Common.{◌≡◌, ◌≢◌, ℕ, ◌+◌, ◌<◌, ◌≤◌, ◌==◌, not, List, [], ◌∷◌, ◌++◌, length}
use Rattle.std.proofs.Common.{take, Fits, w64, filter, reverse, true, false, Bool, cond, refl}
use Rattle.std.proofs.Common.{arith, ne_eqb, ap, sym, true≢false, chars, encode_utf8, IsUtf8, ◌∙◌}
use Rattle.std.proofs.Common.{eqb-true, inl, inr}
use Rattle.std.proofs.lemmas.List.{reverse-append, length-append, length-reverse, length-take}
use Rattle.std.proofs.lemmas.List.Elements.{filter-append}
use Rattle.std.proofs.lemmas.Bool.Decides.{eqb_tells}
use Rattle.std.proofs.lemmas.Str.{chars_past_char}
use Rattle.std.proofs.StrCases.{chars_of_empty}
use Rattle.std.specs.Str.Iter.{chars_rest}
use Rattle.std.specs.declared.str.Chars.{Chars}
use Rattle.nano_toml.specs.Characters.{is_line_feed, Each}
use Rattle.nano_toml.specs.Place.{line_of, column_of, held, remaining_of, before_nul}
use Rattle.nano_toml.specs.Token.{prefix, begins, following}
use Rattle.nano_toml.specs.Scan.{tail}

pub line_of-feed : (cs : List ℕ) (c : ℕ) → c ≡ 10 → line_of (cs ++ c ∷ []) ≡ line_of cs + 1
line_of-feed cs c e = rw (e, filter-append is_line_feed cs (10 ∷ []), length-append (filter is_line_feed cs) (10 ∷ [])) refl

pub line_of-other : (cs : List ℕ) (c : ℕ) → c ≢ 10 → line_of (cs ++ c ∷ []) ≡ line_of cs
line_of-other cs c n =
    let e : (c == 10) ≡ false = ne_eqb c 10 n in
    rw (filter-append is_line_feed cs (c ∷ []), length-append (filter is_line_feed cs) (filter is_line_feed (c ∷ [])), e) (omega arith)

pub column_of-feed : (cs : List ℕ) (c : ℕ) → c ≡ 10 → column_of (cs ++ c ∷ []) ≡ 0
column_of-feed cs c e = rw (e, reverse-append cs (10 ∷ [])) refl

pub column_of-other : (cs : List ℕ) (c : ℕ) → c ≢ 10 → column_of (cs ++ c ∷ []) ≡ column_of cs + 1
column_of-other cs c n =
    let e : (c == 10) ≡ false = ne_eqb c 10 n in
    rw (reverse-append cs (c ∷ []), e) (omega arith)

prefix_not_longer : (p : ℕ → Bool) (t : List ℕ) → length (prefix p t) ≤ length t
prefix_not_longer p [] = omega arith
prefix_not_longer p (c ∷ cs) = elim (p c) as (λ (b : Bool). length (cond b (c ∷ prefix p cs) []) ≤ length (c ∷ cs)) [ true ↦ omega (arith, prefix_not_longer p cs) | false ↦ omega arith ]

filter_not_longer : (p : ℕ → Bool) (t : List ℕ) → length (filter p t) ≤ length t
filter_not_longer p [] = omega arith
filter_not_longer p (c ∷ cs) = elim (p c) as (λ (b : Bool). length (cond b (c ∷ filter p cs) (filter p cs)) ≤ length (c ∷ cs)) [ true ↦ omega (arith, filter_not_longer p cs) | false ↦ omega (arith, filter_not_longer p cs) ]

-- a count of characters among the first so many of a text fits in 64 bits, with one more
pub line_fits : (seen all : List ℕ) (taken line : ℕ) → length seen < length (take taken all) → line ≡ line_of seen → Fits w64 taken → Fits w64 (line + 1)
line_fits seen all taken line more e fits = omega (arith, length-take taken all, filter_not_longer is_line_feed seen)

pub column_fits : (seen all : List ℕ) (taken col : ℕ) → length seen < length (take taken all) → col ≡ column_of seen → Fits w64 taken → Fits w64 (col + 1)
column_fits seen all taken col more e fits =
    omega (arith, length-take taken all, prefix_not_longer (λ c. not (is_line_feed c)) (reverse seen), length-reverse seen)

-- ==== spans

pub after_stop : (p : ℕ → Bool) (t : List ℕ) → begins p t ≡ false → following p t ≡ t
after_stop p [] e = refl
after_stop p (c ∷ cs) e = rw e refl

pub prefix_stop : (p : ℕ → Bool) (t : List ℕ) → begins p t ≡ false → prefix p t ≡ []
prefix_stop p [] e = refl
prefix_stop p (c ∷ cs) e = rw e refl

-- the prefix and what is after it make the text
pub span_split : (p : ℕ → Bool) (t : List ℕ) → t ≡ prefix p t ++ following p t
span_split p [] = refl
span_split p (c ∷ cs) = elim (p c) as (λ (b : Bool). c ∷ cs ≡ cond b (c ∷ prefix p cs) [] ++ cond b (following p cs) (c ∷ cs)) [ true ↦ ap (λ (t : List ℕ). c ∷ t) (span_split p cs) | false ↦ refl ]

-- what is after the prefix does not begin with what passes
pub after_stops : (p : ℕ → Bool) (t : List ℕ) → begins p (following p t) ≡ false
after_stops p [] = refl
after_stops p (c ∷ cs) = elim (p c) as (λ (b : Bool). p c ≡ b → begins p (cond b (following p cs) (c ∷ cs)) ≡ false) [ true ↦ λ e. after_stops p cs | false ↦ λ e. e ] refl

-- the prefix passes
pub prefix_passes : (p : ℕ → Bool) (t : List ℕ) → Each p (prefix p t)
prefix_passes p [] = tt
prefix_passes p (c ∷ cs) = elim (p c) as (λ (b : Bool). p c ≡ b → Each p (cond b (c ∷ prefix p cs) [])) [ true ↦ λ e. (e, prefix_passes p cs) | false ↦ λ e. tt ] refl

-- a run that passes, with no more of its kind after it, is the prefix
pub prefix_again : (p : ℕ → Bool) (run rest : List ℕ) → Each p run → begins p rest ≡ false → prefix p (run ++ rest) ≡ run
prefix_again p [] rest h e = prefix_stop p rest e
prefix_again p (c ∷ cs) rest h e = rw h.0 (ap (λ (t : List ℕ). c ∷ t) (prefix_again p cs rest h.1 e))

pub after_again : (p : ℕ → Bool) (run rest : List ℕ) → Each p run → begins p rest ≡ false → following p (run ++ rest) ≡ rest
after_again p [] rest h e = after_stop p rest e
after_again p (c ∷ cs) rest h e = rw h.0 (after_again p cs rest h.1 e)

pub after_not_longer : (p : ℕ → Bool) (t : List ℕ) → length (following p t) ≤ length t
after_not_longer p [] = omega arith
after_not_longer p (c ∷ cs) = elim (p c) as (λ (b : Bool). length (cond b (following p cs) (c ∷ cs)) ≤ length (c ∷ cs)) [ true ↦ omega (arith, after_not_longer p cs) | false ↦ omega arith ]

-- where a text begins with what passes, what is after its prefix is shorter
pub after_shorter : (p : ℕ → Bool) (t : List ℕ) → begins p t ≡ true → length (following p t) < length t
after_shorter p [] e = absurd (true≢false (sym e))
after_shorter p (c ∷ cs) e = rw e (omega (arith, after_not_longer p cs))

-- ==== remaining text

-- one character is taken from the start
pub held_next : (s t : Chars) (c : ℕ) → IsUtf8 (chars_rest s) → chars_rest s ≡ encode_utf8 c ++ chars_rest t → held s ≡ c ∷ held t
held_next s t c text taken = chars_past_char (chars_rest s) (chars_rest t) c text taken

pub held_none : (s : Chars) → length (chars_rest s) ≡ 0 → held s ≡ []
held_none s none = chars_of_empty (chars_rest s) none

pub remaining_next : (s t : Chars) (c : ℕ) → held s ≡ c ∷ held t → c ≢ 0 → remaining_of s ≡ c ∷ remaining_of t
unfolding remaining_of
remaining_next s t c e h = rw (e, ne_eqb c 0 h) refl

-- at a NUL nothing is left, nor at the end
pub remaining_nul : (s t : Chars) (c : ℕ) → held s ≡ c ∷ held t → c ≡ 0 → remaining_of s ≡ []
unfolding remaining_of
remaining_nul s t c e z = rw (e, z) refl

pub remaining_none : (s : Chars) → held s ≡ [] → remaining_of s ≡ []
unfolding remaining_of
remaining_none s e = ap before_nul e

-- the remaining input of a whole input
pub remaining_whole : (s : Chars) (bytes : List ℕ) → chars_rest s ≡ bytes → remaining_of s ≡ before_nul (chars bytes)
unfolding remaining_of
remaining_whole s bytes e = ap (λ (bs : List ℕ). before_nul (chars bs)) e

-- two cursors at one place
pub remaining_same : (s t : Chars) → chars_rest s ≡ chars_rest t → remaining_of s ≡ remaining_of t
unfolding remaining_of
remaining_same s t e = ap (λ (bytes : List ℕ). before_nul (chars bytes)) e

-- a character that was taken, where one stood
pub past_first : (p : ℕ → Bool) (text rest : List ℕ) (c : ℕ) → (c ≢ 0 → text ≡ c ∷ rest) → (c ≡ 0 → text ≡ []) → begins p text ≡ true → text ≡ c ∷ rest
past_first p text rest c some none h = elim (eqb_tells c 0) [
  | inl e ↦ let here : true ≡ false = sym h ∙ ap (begins p) (none e.1) in absurd (true≢false here)
  | inr e ↦ some e.1
]

pub tail_past : (p : ℕ → Bool) (text rest : List ℕ) (c : ℕ) → (c ≢ 0 → text ≡ c ∷ rest) → (c ≡ 0 → text ≡ []) → begins p text ≡ true → rest ≡ tail text
tail_past p text rest c some none h = sym (ap tail (past_first p text rest c some none h))

-- a known character was taken
pub past_this : (k : ℕ) (text rest : List ℕ) (c : ℕ) → (c ≢ 0 → text ≡ c ∷ rest) → (c ≡ 0 → text ≡ []) → begins (λ d. d == k) text ≡ true → text ≡ k ∷ rest
past_this k text rest c some none h =
    let e = past_first (λ d. d == k) text rest c some none h in
    let same : (c == k) ≡ true = sym (ap (begins (λ d. d == k)) e) ∙ h in
    e ∙ ap (λ (d : ℕ). d ∷ rest) (eqb-true c k same)
