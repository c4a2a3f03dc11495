-- What is cut after a gap.
use Rattle.std.proofs.Common.{◌≡◌, ℕ, List, [], ◌∷◌, ◌++◌, inl, inr, sym, ◌∙◌, subst, false}
use Rattle.nano_text.specs.Characters.{first_is, is_space}
use Rattle.nano_ron_tokens.specs.Token.{Token}
use Rattle.nano_ron_tokens.specs.Cut.{IsLexeme, Cut, IsGap}
use Rattle.nano_grammar.specs.Faults.{NothingCut}
use Rattle.nano_ron_tokens.specs.Breaks.{Breaks, BreaksLexeme, number, quoted, single, slash, character}
use Rattle.nano_ron_tokens.specs.Breaks.{Opens, itself, escaped, BreaksSingle, ended, unclosed}
use Rattle.nano_ron_tokens.specs.Scan.{IsStop, BeginsNoComment, AfterGap}
use Rattle.nano_ron_tokens.proofs.Cuts.{end_elsewhere, is_unended}
use Rattle.nano_ron_tokens.proofs.LexemeKinds.{kind_at, the_end, only_end, lexeme_stops}
use Rattle.nano_ron_tokens.proofs.Skipping.{skips_one_way, skips_go_on, unended_stops}

-- without the gap before a token it is cut too
pub gap_is_left_out : (gap text rest : List ℕ) (t : Token) → IsGap gap → Cut (gap ++ text) t rest → Cut text t rest
gap_is_left_out gap text rest t is h =
    let more = skips_go_on gap h.gap text h.body is h.skipped (lexeme_stops t h.body rest h.lexeme) h.split in
    record { gap = more.0; body = h.body; split = more.2; skipped = more.1; lexeme = h.lexeme }

-- after the gap of a cut comes what is after every gap
pub cut_lexeme : (text between rest : List ℕ) (t : Token) → AfterGap text between → IsStop between → Cut text t rest → IsLexeme t between rest
cut_lexeme text between rest t g stop h =
    let ends : IsStop g.body = elim g.left [ inl same ↦ subst IsStop (sym same) stop | inr u ↦ unended_stops g.body u.0 ] in
    let same = skips_one_way h.gap g.gap h.body g.body h.skipped g.skipped (lexeme_stops t h.body rest h.lexeme) ends (sym h.split ∙ g.split) in
    let lexeme = subst (λ (body : List ℕ). IsLexeme t body rest) same h.lexeme in
    elim g.left [
      | inl e ↦ subst (λ (body : List ℕ). IsLexeme t body rest) e lexeme
      | inr u ↦ end_elsewhere t g.body between rest u.0 (inl u.1) lexeme
    ]

pub lexeme_cut : (text between rest : List ℕ) (t : Token) → AfterGap text between → IsLexeme t between rest → Cut text t rest
lexeme_cut text between rest t g h = record {
  gap = g.gap;
  body = g.body;
  split = g.split;
  skipped = g.skipped;
  lexeme = elim g.left [
    | inl e ↦ subst (λ (body : List ℕ). IsLexeme t body rest) (sym e) h
    | inr u ↦ end_elsewhere t between g.body rest (inl u.1) u.0 h
  ];
}

-- nothing is cut where a slash begins no comment
pub none_cut : (text between : List ℕ) → AfterGap text between → kind_at between ≡ the_end → BeginsNoComment between → NothingCut Cut text
none_cut text between g kind none t rest h =
    let lexeme = cut_lexeme text between rest t g none.0 h in
    none.1 (is_unended t between rest (only_end t between rest kind lexeme))

-- ---- where a text breaks

opens_some : (after : List ℕ) → Opens [] after → ⊥
opens_some after (itself is _) = cc is
opens_some after (escaped is) = cc is

single_some : (rest : List ℕ) → BreaksSingle [] rest → ⊥
single_some rest (ended opens is) = opens_some [] opens
single_some rest (unclosed c opens _) = opens_some (c ∷ rest) opens

-- where nothing is left, nothing breaks
breaks_some : (rest : List ℕ) → BreaksLexeme [] rest → ⊥
breaks_some rest (number starts b) = cc starts
breaks_some rest (quoted starts b) = cc starts
breaks_some rest (single b) = single_some rest b
breaks_some rest (slash b) = let is = b.is in cc is
breaks_some rest (character b) = let is = b.is in cc is

-- what begins with no lexeme after a gap begins with no token
pub gap_breaks : (text between rest : List ℕ) → AfterGap text between → first_is is_space between ≡ false
    → BreaksLexeme between rest → Breaks text rest
gap_breaks text between rest g ends b = elim g.left [
  | inl e ↦ record {
    gap = g.gap;
    body = g.body;
    split = g.split;
    skipped = g.skipped;
    ends = subst (λ (body : List ℕ). first_is is_space body ≡ false) (sym e) ends;
    lexeme = subst (λ (body : List ℕ). BreaksLexeme body rest) (sym e) b;
  }
  | inr u ↦ absurd (breaks_some rest (subst (λ (body : List ℕ). BreaksLexeme body rest) u.1 b))
]
