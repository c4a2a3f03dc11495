-- What is skipped, and how it is scanned: one is the other.
use Rattle.std.proofs.Common.{◌≡◌, ℕ, List, [], ◌∷◌, ◌++◌, Bool, true, false, cond, eqb, refl, ap}
use Rattle.std.proofs.Common.{sym, ◌∙◌, inl, inr, append_assoc, true≢false}
use Rattle.std.proofs.lemmas.Bool.Decides.{eqb_tells}
use Rattle.std.proofs.lemmas.Bool.{or_left}
use Rattle.nano_toml.specs.Characters.{is_space, is_line_feed, NoneOf, starts_word, is_in_word}
use Rattle.nano_toml.specs.Characters.{Each}
use Rattle.nano_toml.specs.Cut.{Gap, space, comment, gaps_text, AreGaps, Lexeme, a_word}
use Rattle.nano_toml.specs.Scan.{after_gaps, taken}
use Rattle.nano_toml.specs.Token.{begins, prefix, following, IsWord, word_token}
use Rattle.nano_toml.proofs.ByteTests.{lexeme_at}
use Rattle.nano_toml.proofs.Places.{prefix_again, after_again, span_split, after_stops}
use Rattle.nano_toml.proofs.Places.{prefix_passes}

-- ---- what is skipped is scanned

comment_scanned : (body rest : List ℕ) → NoneOf is_line_feed body → after_gaps true (body ++ 10 ∷ rest) ≡ after_gaps false rest
comment_scanned [] rest h = refl
comment_scanned (c ∷ cs) rest h = rw h.0 (comment_scanned cs rest h.1)

pub last_comment_scanned : (body : List ℕ) → NoneOf is_line_feed body → after_gaps true body ≡ []
last_comment_scanned [] h = refl
last_comment_scanned (c ∷ cs) h = rw h.0 (last_comment_scanned cs h.1)

space_no_comment : (c : ℕ) → is_space c ≡ true → eqb c 35 ≡ false
space_no_comment c h = elim (eqb_tells c 35) [ inl e ↦ absurd (true≢false (sym h ∙ ap is_space e.1)) | inr e ↦ e.0 ]

pub gaps_scanned : (gaps : List Gap) (rest : List ℕ) → AreGaps gaps → after_gaps false (gaps_text gaps ++ rest) ≡ after_gaps false rest
gaps_scanned [] rest h = refl
gaps_scanned (space c ∷ gaps) rest h = rw (space_no_comment c h.0, h.0) (gaps_scanned gaps rest h.1)
gaps_scanned (comment body ∷ gaps) rest h =
    let text : ((body ++ 10 ∷ []) ++ gaps_text gaps) ++ rest ≡ body ++ 10 ∷ (gaps_text gaps ++ rest) = simp append_assoc in
    ap (after_gaps true) text ∙ (comment_scanned body (gaps_text gaps ++ rest) h.0 ∙ gaps_scanned gaps rest h.1)

-- ---- what is scanned is skipped

pub data Skips (text rest : List ℕ) : Type 0 where
  to_rest : (gaps : List Gap) → AreGaps gaps → text ≡ gaps_text gaps ++ rest → Skips text rest
  to_end : (gaps : List Gap) (body : List ℕ) → AreGaps gaps → NoneOf is_line_feed body → text ≡ gaps_text gaps ++ 35 ∷ body → rest ≡ [] → Skips text rest

data EndsComment (text rest : List ℕ) : Type 0 where
  by_feed : (body more : List ℕ) → NoneOf is_line_feed body → text ≡ body ++ 10 ∷ more → Skips more rest → EndsComment text rest
  by_end : NoneOf is_line_feed text → rest ≡ [] → EndsComment text rest

add_space : (c : ℕ) (cs rest : List ℕ) → is_space c ≡ true → Skips cs rest → Skips (c ∷ cs) rest
add_space c cs rest h (to_rest gaps are split) = to_rest (space c ∷ gaps) (h, are) (ap (λ (t : List ℕ). c ∷ t) split)
add_space c cs rest h (to_end gaps body are none split nothing) = to_end (space c ∷ gaps) body (h, are) none (ap (λ (t : List ℕ). c ∷ t) split) nothing

add_comment : (body more rest : List ℕ) → NoneOf is_line_feed body → Skips more rest → Skips (35 ∷ (body ++ 10 ∷ more)) rest
add_comment body more rest h (to_rest gaps are split) =
    let text : 35 ∷ (body ++ 10 ∷ (gaps_text gaps ++ rest)) ≡ gaps_text (comment body ∷ gaps) ++ rest = simp append_assoc in
    to_rest (comment body ∷ gaps) (h, are) (ap (λ (t : List ℕ). 35 ∷ (body ++ 10 ∷ t)) split ∙ text)
add_comment body more rest h (to_end gaps last are none split nothing) =
    let text : 35 ∷ (body ++ 10 ∷ (gaps_text gaps ++ 35 ∷ last)) ≡ gaps_text (comment body ∷ gaps) ++ 35 ∷ last = simp append_assoc in
    to_end (comment body ∷ gaps) last (h, are) none (ap (λ (t : List ℕ). 35 ∷ (body ++ 10 ∷ t)) split ∙ text) nothing

open_comment : (c : ℕ) (cs rest : List ℕ) → c ≡ 35 → EndsComment cs rest → Skips (c ∷ cs) rest
open_comment c cs rest e (by_feed body more none split s) = rw (e, split) (add_comment body more rest none s)
open_comment c cs rest e (by_end none nothing) = to_end [] cs tt none (ap (λ (d : ℕ). d ∷ cs) e) nothing

more_comment : (c : ℕ) (cs rest : List ℕ) → is_line_feed c ≡ false → EndsComment cs rest → EndsComment (c ∷ cs) rest
more_comment c cs rest h (by_feed body more none split s) = by_feed (c ∷ body) more (h, none) (ap (λ (t : List ℕ). c ∷ t) split) s
more_comment c cs rest h (by_end none nothing) = by_end (h, none) nothing

mutual
  pub skips : (text : List ℕ) → Skips text (after_gaps false text)
  skips [] = to_rest [] tt refl
  skips (c ∷ cs) = elim (eqb_tells c 35) [
    | inl e ↦ rw e.0 (open_comment c cs (after_gaps true cs) e.1 (ends_comment cs))
    | inr e ↦ rw e.0 (elim (is_space c) as (λ (b : Bool). is_space c ≡ b → Skips (c ∷ cs) (cond b (after_gaps false cs) (c ∷ cs))) [
      | true ↦ λ h. add_space c cs (after_gaps false cs) h (skips cs)
      | false ↦ λ h. to_rest [] tt refl
    ] refl)
  ]

  ends_comment : (text : List ℕ) → EndsComment text (after_gaps true text)
  ends_comment [] = by_end tt refl
  ends_comment (c ∷ cs) = elim (eqb_tells c 10) [
    | inl e ↦ rw e.0 (by_feed [] cs tt (ap (λ (d : ℕ). d ∷ cs) e.1) (skips cs))
    | inr e ↦ rw e.0 (more_comment c cs (after_gaps true cs) e.0 (ends_comment cs))
  ]

-- ==== words

-- what starts a word may stand in one
in_word_from_start : (c : ℕ) → starts_word c ≡ true → is_in_word c ≡ true
in_word_from_start c h = or_left (starts_word c) _ h

pub at_word : (c : ℕ) (cs : List ℕ) → starts_word c ≡ true → lexeme_at (c ∷ cs) ≡ taken (word_token (prefix is_in_word (c ∷ cs))) (following is_in_word (c ∷ cs))
at_word c cs h = rw h refl

pub word_scanned : (word rest : List ℕ) → IsWord word → begins is_in_word rest ≡ false → lexeme_at (word ++ rest) ≡ taken (word_token word) rest
word_scanned [] rest h e = absurd h
word_scanned (c ∷ cs) rest h e =
    let each : Each is_in_word (c ∷ cs) = (in_word_from_start c h.0, h.1) in
    at_word c (cs ++ rest) h.0
    ∙ (ap (λ (w : List ℕ). taken (word_token w) (following is_in_word ((c ∷ cs) ++ rest))) (prefix_again is_in_word (c ∷ cs) rest each e)
    ∙ ap (λ (t : List ℕ). taken (word_token (c ∷ cs)) t) (after_again is_in_word (c ∷ cs) rest each e))

prefix_is_word : (c : ℕ) (cs : List ℕ) (b : Bool) → b ≡ true → starts_word c ≡ true → IsWord (cond b (c ∷ prefix is_in_word cs) [])
prefix_is_word c cs true e h = (h, prefix_passes is_in_word cs)
prefix_is_word c cs false e h = cc e

pub scanned_word : (c : ℕ) (cs : List ℕ) → starts_word c ≡ true → Lexeme (c ∷ cs) (word_token (prefix is_in_word (c ∷ cs))) (following is_in_word (c ∷ cs))
scanned_word c cs h = a_word (prefix is_in_word (c ∷ cs)) (prefix_is_word c cs (is_in_word c) (in_word_from_start c h) h) (after_stops is_in_word (c ∷ cs)) (span_split is_in_word (c ∷ cs)) refl
