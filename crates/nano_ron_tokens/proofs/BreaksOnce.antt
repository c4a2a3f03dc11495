-- Where no token is cut from a text, a reader goes to one place.
use Rattle.std.proofs.Common.{◌≡◌, ℕ, List, [], ◌∷◌, ◌++◌, inl, inr, Bool, true, false, refl, sym, ap, ◌∙◌}
use Rattle.std.proofs.Common.{subst, arith, eqb-true, ne_eqb}
use Rattle.std.specs.Char.{is_ascii_digit}
use Rattle.std.proofs.lemmas.Bool.{or_cases}
use Rattle.nano_text.specs.Breaks.{is_quote}
use Rattle.nano_text.specs.Characters.{first_is, is_space}
use Rattle.nano_text.specs.Number.{is_sign}
use Rattle.nano_text.proofs.BreaksOnce.{number_once, string_once, number_apart, string_apart}
use Rattle.nano_text.proofs.BreaksOnce.{signed_decimal, digit_decimal, point_decimal, not_backslash}
use Rattle.nano_text.proofs.Strings.{same_after_first}
use Rattle.nano_ron_tokens.specs.Breaks.{Breaks, BreaksLexeme, BreaksCharacter, BreaksSlash, BreaksSingle}
use Rattle.nano_ron_tokens.specs.Breaks.{number as bad_number, quoted as bad_string, single as bad_single}
use Rattle.nano_ron_tokens.specs.Breaks.{slash, character as bad_character, Opens, itself, escaped}
use Rattle.nano_ron_tokens.specs.Breaks.{ended, unclosed, is_slash, is_star, is_apostrophe}
use Rattle.nano_ron_tokens.specs.Cut.{starts_number, IsLexeme, IsCharacter, IsUnended, number, quoted}
use Rattle.nano_ron_tokens.specs.Cut.{single, nothing, Cut, space, line, block}
use Rattle.nano_ron_tokens.specs.Scan.{IsStop, starts_gap}
use Rattle.nano_ron_tokens.specs.Token.{Token, str, f64, character, end}
use Rattle.nano_ron_tokens.proofs.Cuts.{run_number, quoted_string, is_unended}
use Rattle.nano_ron_tokens.proofs.LexemeKinds.{kind_of, kind_at, a_number, a_string, a_character, the_end}
use Rattle.nano_ron_tokens.proofs.LexemeKinds.{kind_string, kind_single, kind_slash, number_kind, stops_by}
use Rattle.nano_ron_tokens.proofs.LexemeKinds.{only_number, only_quoted, only_single, only_end, lexeme_stops}
use Rattle.nano_ron_tokens.proofs.Skipping.{skips_one_way, first_stops, slash_is_no_space, line_is, block_is}

-- ---- what the first character says

quote_kind : (text : List ℕ) → first_is is_quote text ≡ true → kind_at text ≡ a_string
quote_kind [] h = cc h
quote_kind (c ∷ cs) h = ap kind_of (eqb-true c 34 h) ∙ kind_string

opens_first : (text after : List ℕ) → Opens text after → (more : List ℕ) × (text ≡ 39 ∷ more)
opens_first text after (itself e n) = (after, e)
opens_first text after (escaped e) = (92 ∷ after, e)

apostrophe_first : (text rest : List ℕ) → BreaksSingle text rest → (more : List ℕ) × (text ≡ 39 ∷ more)
apostrophe_first text rest (ended h r) = opens_first text [] h
apostrophe_first text rest (unclosed c h n) = opens_first text (c ∷ rest) h

apostrophe_kind : (text rest : List ℕ) → BreaksSingle text rest → kind_at text ≡ a_character
apostrophe_kind text rest h = ap kind_at (apostrophe_first text rest h).1 ∙ kind_single

slash_kind : (text rest : List ℕ) → BreaksSlash text rest → kind_at text ≡ the_end
slash_kind text rest h = ap kind_at h.is ∙ kind_slash

-- ---- where a character breaks, nothing else does

no_number : (text rest : List ℕ) → first_is starts_number text ≡ true → BreaksCharacter text rest → ⊥
no_number text rest starts h =
    let first : starts_number h.first ≡ true = subst (λ (l : List ℕ). first_is starts_number l ≡ true) h.is starts in
    elim (or_cases _ _ first) [
      | inr p ↦ h.none (f64 (h.first ∷ 48 ∷ [])) (48 ∷ []) [] (number first (point_decimal h.first (eqb-true h.first 46 p)))
      | inl n ↦ elim (or_cases (is_sign h.first) (is_ascii_digit h.first) n) [
        | inl s ↦ h.none (f64 (h.first ∷ 48 ∷ 46 ∷ [])) (48 ∷ 46 ∷ []) [] (number first (signed_decimal h.first s))
        | inr d ↦ h.none (f64 (h.first ∷ 46 ∷ [])) (46 ∷ []) [] (number first (digit_decimal h.first d))
      ]
    ]

no_string : (text rest : List ℕ) → first_is is_quote text ≡ true → BreaksCharacter text rest → ⊥
no_string text rest starts h =
    let first : h.first ≡ 34 = eqb-true h.first 34 (subst (λ (l : List ℕ). first_is is_quote l ≡ true) h.is starts) in
    h.none (str []) (34 ∷ []) []
    (quoted ([], record { pieces = []; good = tt; split = ap (λ (c : ℕ). c ∷ 34 ∷ []) first; characters_are = refl }, refl))

first_same : (c d : ℕ) (text xs ys : List ℕ) → text ≡ c ∷ xs → text ≡ d ∷ ys → c ≡ d
first_same c d text xs ys e f = cc (e, f)

no_single : (text rest other : List ℕ) → BreaksSingle text other → BreaksCharacter text rest → ⊥
no_single text rest other apostrophe h =
    let starts = apostrophe_first text other apostrophe in
    let first = first_same h.first 39 text h.after starts.0 h.is starts.1 in
    let is : h.first ∷ 97 ∷ 39 ∷ [] ≡ 39 ∷ 97 ∷ 39 ∷ [] = ap (λ (c : ℕ). c ∷ 97 ∷ 39 ∷ []) first in
    h.none (character 97) (97 ∷ 39 ∷ []) [] (single (λ e. omega (arith, e), inl (λ e. omega (arith, e), is)))

no_slash : (text more rest : List ℕ) → text ≡ 47 ∷ more → BreaksCharacter text rest → ⊥
no_slash text more rest is h =
    let first = first_same h.first 47 text h.after more h.is is in
    h.none end (47 ∷ []) [] (nothing (inr (inl ([], ap (λ (c : ℕ). c ∷ 47 ∷ []) first, tt)), refl))

-- ---- one place after a gap

opens_once : (text a b : List ℕ) → Opens text a → Opens text b → a ≡ b
opens_once text a b (itself e n) (itself f m) = same_after_first 39 39 text a b e f
opens_once text a b (itself e n) (escaped f) = absurd (not_backslash a b n (same_after_first 39 39 text a (92 ∷ b) e f))
opens_once text a b (escaped e) (itself f m) = absurd (not_backslash b a m (same_after_first 39 39 text b (92 ∷ a) f e))
opens_once text a b (escaped e) (escaped f) =
    let same = same_after_first 39 39 text (92 ∷ a) (92 ∷ b) e f in cc same

single_once : (text a b : List ℕ) → BreaksSingle text a → BreaksSingle text b → a ≡ b
single_once text a b (ended h r) (ended k s) = r ∙ sym s
single_once text a b (ended h r) (unclosed c k n) = let e = opens_once text [] (c ∷ b) h k in cc e
single_once text a b (unclosed c h n) (ended k s) = let e = opens_once text [] (c ∷ a) k h in cc e
single_once text a b (unclosed c h n) (unclosed d k m) = let e = opens_once text (c ∷ a) (d ∷ b) h k in cc e

lexeme_once : (text a b : List ℕ) → BreaksLexeme text a → BreaksLexeme text b → a ≡ b
lexeme_once text a b (bad_number s h) (bad_number t k) = number_once text a b h k
lexeme_once text a b (bad_number s h) (bad_string t k) = let e = sym (number_kind text s) ∙ quote_kind text t in cc e
lexeme_once text a b (bad_number s h) (bad_single k) = let e = sym (number_kind text s) ∙ apostrophe_kind text b k in cc e
lexeme_once text a b (bad_number s h) (slash k) = let e = sym (number_kind text s) ∙ slash_kind text b k in cc e
lexeme_once text a b (bad_number s h) (bad_character k) = absurd (no_number text b s k)
lexeme_once text a b (bad_string s h) (bad_number t k) = let e = sym (quote_kind text s) ∙ number_kind text t in cc e
lexeme_once text a b (bad_string s h) (bad_string t k) = string_once text a b h k
lexeme_once text a b (bad_string s h) (bad_single k) = let e = sym (quote_kind text s) ∙ apostrophe_kind text b k in cc e
lexeme_once text a b (bad_string s h) (slash k) = let e = sym (quote_kind text s) ∙ slash_kind text b k in cc e
lexeme_once text a b (bad_string s h) (bad_character k) = absurd (no_string text b s k)
lexeme_once text a b (bad_single h) (bad_number t k) = let e = sym (apostrophe_kind text a h) ∙ number_kind text t in cc e
lexeme_once text a b (bad_single h) (bad_string t k) = let e = sym (apostrophe_kind text a h) ∙ quote_kind text t in cc e
lexeme_once text a b (bad_single h) (bad_single k) = single_once text a b h k
lexeme_once text a b (bad_single h) (slash k) = let e = sym (apostrophe_kind text a h) ∙ slash_kind text b k in cc e
lexeme_once text a b (bad_single h) (bad_character k) = absurd (no_single text b a h k)
lexeme_once text a b (slash h) (bad_number t k) = let e = sym (slash_kind text a h) ∙ number_kind text t in cc e
lexeme_once text a b (slash h) (bad_string t k) = let e = sym (slash_kind text a h) ∙ quote_kind text t in cc e
lexeme_once text a b (slash h) (bad_single k) = let e = sym (slash_kind text a h) ∙ apostrophe_kind text b k in cc e
lexeme_once text a b (slash h) (slash k) = same_after_first 47 47 text a b h.is k.is
lexeme_once text a b (slash h) (bad_character k) = absurd (no_slash text a b h.is k)
lexeme_once text a b (bad_character h) (bad_number t k) = absurd (no_number text a t h)
lexeme_once text a b (bad_character h) (bad_string t k) = absurd (no_string text a t h)
lexeme_once text a b (bad_character h) (bad_single k) = absurd (no_single text a b k h)
lexeme_once text a b (bad_character h) (slash k) = absurd (no_slash text b a k.is h)
lexeme_once text a b (bad_character h) (bad_character k) = h.all ∙ sym k.all

-- ---- a gap ends where a lexeme breaks

not_second : (c : ℕ) (test : ℕ → Bool) (text more : List ℕ) → test c ≡ true → first_is test text ≡ false → text ≡ c ∷ more → ⊥
not_second c test text more passes none is = let e = sym passes ∙ subst (λ (l : List ℕ). first_is test l ≡ false) is none in cc e

slash_stops : (text rest : List ℕ) → BreaksSlash text rest → IsStop text
slash_stops text rest h (space c) more k e = slash_is_no_space c k (first_same c 47 text more rest e h.is)
slash_stops text rest h (line cs) more k e =
    let is = same_after_first 47 47 text rest (47 ∷ (cs ++ 10 ∷ more)) h.is (e ∙ line_is cs more) in
    not_second 47 is_slash rest (cs ++ 10 ∷ more) refl h.no_line is
slash_stops text rest h (block cs) more k e =
    let is = same_after_first 47 47 text rest (42 ∷ (cs ++ 42 ∷ 47 ∷ more)) h.is (e ∙ block_is cs more) in
    not_second 42 is_star rest (cs ++ 42 ∷ 47 ∷ more) refl h.no_block is

character_stops : (text rest : List ℕ) → BreaksCharacter text rest → first_is is_space text ≡ false → IsStop text
character_stops text rest h ends =
    let none : is_space h.first ≡ false = subst (λ (l : List ℕ). first_is is_space l ≡ false) h.is ends in
    let other = ne_eqb h.first 47 (λ e. no_slash text h.after rest (h.is ∙ ap (λ (c : ℕ). c ∷ h.after) e) h) in
    let first : starts_gap h.first ≡ false = rw (none, other) refl in
    first_stops text (ap (first_is starts_gap) h.is ∙ first)

breaks_stop : (text rest : List ℕ) → BreaksLexeme text rest → first_is is_space text ≡ false → IsStop text
breaks_stop text rest (bad_number s h) ends = stops_by text a_number (number_kind text s) (λ e. cc e) (λ e. cc e)
breaks_stop text rest (bad_string s h) ends = stops_by text a_string (quote_kind text s) (λ e. cc e) (λ e. cc e)
breaks_stop text rest (bad_single h) ends = stops_by text a_character (apostrophe_kind text rest h) (λ e. cc e) (λ e. cc e)
breaks_stop text rest (slash h) ends = slash_stops text rest h
breaks_stop text rest (bad_character h) ends = character_stops text rest h ends

pub breaks_once : (text a b : List ℕ) → Breaks text a → Breaks text b → a ≡ b
breaks_once text a b h k =
    let here = breaks_stop h.body a h.lexeme h.ends in
    let there = breaks_stop k.body b k.lexeme k.ends in
    let same = skips_one_way h.gap k.gap h.body k.body h.skipped k.skipped here there (sym h.split ∙ k.split) in
    lexeme_once k.body a b (subst (λ (body : List ℕ). BreaksLexeme body a) same h.lexeme) k.lexeme

-- ---- and no lexeme stands there

opens_character : (t : Token) (text left : List ℕ) → IsCharacter t text left → (c : ℕ) × Opens text (c ∷ 39 ∷ left)
opens_character (character c) text left h = elim h.1 [
  | inl p ↦ (c, itself p.1 (ne_eqb c 92 p.0))
  | inr p ↦ (c, escaped p)
]
opens_character _ text left h = absurd h

single_apart : (text rest left : List ℕ) (t : Token) → BreaksSingle text rest → IsCharacter t text left → ⊥
single_apart text rest left t (ended h r) is =
    let o = opens_character t text left is in
    let e = opens_once text [] (o.0 ∷ 39 ∷ left) h o.1 in cc e
single_apart text rest left t (unclosed c h n) is =
    let o = opens_character t text left is in
    let after = opens_once text (c ∷ rest) (o.0 ∷ 39 ∷ left) h o.1 in
    not_second 39 is_apostrophe rest left refl n (same_after_first c o.0 (c ∷ rest) rest (39 ∷ left) refl after)

slash_apart : (text rest : List ℕ) → BreaksSlash text rest → IsUnended text → ⊥
slash_apart text rest h is = elim is [
  | inl e ↦ let x = sym e ∙ h.is in cc x
  | inr r ↦ elim r [
    | inl l ↦ not_second 47 is_slash rest l.0 refl h.no_line (same_after_first 47 47 text rest (47 ∷ l.0) h.is l.1)
    | inr b ↦ not_second 42 is_star rest b.0 refl h.no_block (same_after_first 47 47 text rest (42 ∷ b.0) h.is b.1)
  ]
]

lexeme_apart : (text rest left : List ℕ) (t : Token) → BreaksLexeme text rest → IsLexeme t text left → ⊥
lexeme_apart text rest left t (bad_number s h) lexeme =
    let run = run_number t text left (only_number t text left (number_kind text s) lexeme) in
    number_apart text rest left run.1 run.0 h run.2
lexeme_apart text rest left t (bad_string s h) lexeme =
    let string = quoted_string t text left (only_quoted t text left (quote_kind text s) lexeme) in
    string_apart text rest left string.0 h string.1
lexeme_apart text rest left t (bad_single h) lexeme =
    single_apart text rest left t h (only_single t text left (apostrophe_kind text rest h) lexeme)
lexeme_apart text rest left t (slash h) lexeme =
    slash_apart text rest h (is_unended t text left (only_end t text left (slash_kind text rest h) lexeme))
lexeme_apart text rest left t (bad_character h) lexeme =
    h.none t h.after left (subst (λ (l : List ℕ). IsLexeme t l left) h.is lexeme)

pub breaks_or_cuts : (text rest left : List ℕ) (t : Token) → Breaks text rest → Cut text t left → ⊥
breaks_or_cuts text rest left t h cut =
    let here = breaks_stop h.body rest h.lexeme h.ends in
    let there = lexeme_stops t cut.body left cut.lexeme in
    let same = skips_one_way h.gap cut.gap h.body cut.body h.skipped cut.skipped here there (sym h.split ∙ cut.split) in
    lexeme_apart cut.body rest left t (subst (λ (body : List ℕ). BreaksLexeme body rest) same h.lexeme) cut.lexeme
