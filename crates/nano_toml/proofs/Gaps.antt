-- White space and comments.
use Rattle.std.proofs.Common.{◌≡◌, ℕ, ◌<◌, List, [], ◌∷◌, length, true, false, not, eqb, eqb-true}
use Rattle.std.proofs.Common.{refl, ap, sym, ◌∙◌, inl, inr, true≢false, arith, Bool, cond, ◌||◌}
use Rattle.std.proofs.lemmas.Bool.Decides.{eqb_tells}
use Rattle.nano_toml.specs.Characters.{is_space, is_line_feed}
use Rattle.nano_toml.specs.Cut.{begins_gap}
use Rattle.nano_toml.specs.Token.{begins, following}
use Rattle.nano_toml.specs.Scan.{after_gaps}
use Rattle.nano_toml.proofs.Places.{after_not_longer}

at_feed : (c : ℕ) (cs : List ℕ) → c ≡ 10 → after_gaps true (c ∷ cs) ≡ after_gaps false (following (λ d. not (is_line_feed d)) (c ∷ cs))
at_feed c cs e = rw e refl

-- a comment goes up to its line feed, which is white space
pub comment_gaps : (text : List ℕ) → after_gaps true text ≡ after_gaps false (following (λ c. not (is_line_feed c)) text)
comment_gaps [] = refl
comment_gaps (c ∷ cs) = elim (eqb_tells c 10) [ inl h ↦ at_feed c cs h.1 | inr h ↦ rw h.0 (comment_gaps cs) ]

pub gaps_from_comment : (text : List ℕ) → begins (λ c. eqb c 35) text ≡ true → after_gaps false text ≡ after_gaps false (following (λ c. not (is_line_feed c)) text)
gaps_from_comment [] h = refl
gaps_from_comment (c ∷ cs) h = rw (eqb-true c 35 h) (comment_gaps cs)

pub comment_shorter : (text : List ℕ) → begins (λ c. eqb c 35) text ≡ true → length (following (λ c. not (is_line_feed c)) text) < length text
comment_shorter [] h = absurd (true≢false (sym h))
comment_shorter (c ∷ cs) h = rw (eqb-true c 35 h) (omega (arith, after_not_longer (λ d. not (is_line_feed d)) cs))

-- white space is skipped
pub gaps_at_space : (c : ℕ) (text rest : List ℕ) → text ≡ c ∷ rest → begins (λ d. eqb d 35) text ≡ false → begins is_space text ≡ true → after_gaps false text ≡ after_gaps false rest
gaps_at_space c text rest t n s =
    let no : eqb c 35 ≡ false = sym (ap (begins (λ d. eqb d 35)) t) ∙ n in
    let yes : is_space c ≡ true = sym (ap (begins is_space) t) ∙ s in
    rw (t, no, yes) refl

-- where no gap begins, there is none to skip
pub gaps_stop : (text : List ℕ) → begins (λ c. eqb c 35) text ≡ false → begins is_space text ≡ false → after_gaps false text ≡ text
gaps_stop [] h s = refl
gaps_stop (c ∷ cs) h s = rw (h, s) refl

not_either : (a b : Bool) → (a || b) ≡ false → (a ≡ false) × (b ≡ false)
not_either true b h = absurd (true≢false h)
not_either false b h = (refl, h)

-- no gap begins after the gaps
pub after_no_gap : (comment : Bool) (text : List ℕ) → begins begins_gap (after_gaps comment text) ≡ false
after_no_gap true [] = refl
after_no_gap false [] = refl
after_no_gap true (c ∷ cs) = elim (is_line_feed c) as (λ (b : Bool). begins begins_gap (cond b (after_gaps false cs) (after_gaps true cs)) ≡ false) [ true ↦ after_no_gap false cs | false ↦ after_no_gap true cs ]
after_no_gap false (c ∷ cs) = elim (eqb_tells c 35) [
  | inl h ↦ rw h.0 (after_no_gap true cs)
  | inr h ↦ rw h.0 (elim (is_space c) as (λ (b : Bool). is_space c ≡ b → begins begins_gap (cond b (after_gaps false cs) (c ∷ cs)) ≡ false) [
    | true ↦ λ s. after_no_gap false cs
    | false ↦ λ s. rw (s, h.0) refl
  ] refl)
]

pub gaps_none : (text : List ℕ) → begins begins_gap text ≡ false → after_gaps false text ≡ text
gaps_none [] h = refl
gaps_none (c ∷ cs) h =
    let parts = not_either (is_space c) (eqb c 35) h in
    rw (parts.1, parts.0) refl
