-- Where the tokenizer stops in a text that begins with no lexeme.
use Rattle.std.proofs.Common.{◌≡◌, ℕ, List, [], ◌∷◌, ◌++◌, Bool, true, false, Option, Some, None}
use Rattle.std.proofs.Common.{refl, ap, sym, ◌∙◌, subst, append_assoc, append-nil, inl, inr}
use Rattle.std.proofs.Common.{if◌then◌else◌}
use Rattle.std.proofs.lemmas.Bool.Decides.{eqb_tells}
use Rattle.nano_toml.specs.Characters.{is_quote, starts_word, starts_number}
use Rattle.nano_toml.specs.Cut.{Lexeme, CutsNothing, punctuator_token, begins_gap, gaps_text}
use Rattle.nano_toml.specs.FirstError.{CanBeginLexeme, IsMalformed}
use Rattle.nano_toml.specs.Place.{number_remaining}
use Rattle.nano_toml.specs.Scan.{taken, Content, after_one_quote, after_gaps}
use Rattle.nano_toml.proofs.ByteTests.{lexeme_at}
use Rattle.nano_toml.specs.Token.{begins, Token, string, comma}
use Rattle.nano_toml.specs.Reading.{Next, a_token}
use Rattle.nano_toml.proofs.Gaps.{after_no_gap}
use Rattle.nano_toml.proofs.GapCut.{Skips, to_rest, to_end, skips, at_word}
use Rattle.nano_toml.proofs.LexemeCut.{at_number, at_quote, at_other, number_lexeme, string_taken}
use Rattle.nano_toml.proofs.LexemeCut.{punctuator_taken, lexeme_scanned, scanned_lexeme}
use Rattle.nano_toml.proofs.NumberHalts.{number_halts, first_unchanged}
use Rattle.nano_toml.proofs.StringHalts.{string_completes}

-- a string that is none goes up to the end of the text
abbrev pub lexeme_remaining : List ℕ → List ℕ
lexeme_remaining [] = []
lexeme_remaining (c ∷ cs) =
    if starts_number c then number_remaining (c ∷ cs)
    else if is_quote c then []
    else (c ∷ cs)

-- the scan of a lexeme stops before what remains
pub record LexemeHalts (text remaining : List ℕ) : Type 0 where
  pub prefix : List ℕ
  pub split : text ≡ prefix ++ remaining
  pub more : List ℕ
  pub next : Next
  pub whole : lexeme_at (prefix ++ more) ≡ Some (record { next = next; rest = [] })
  pub breaks : (c : ℕ) (cs after : List ℕ) → remaining ≡ c ∷ cs → lexeme_at (prefix ++ c ∷ after) ≡ None

no_string : (content : Option Content) → string_taken content ≡ None → content ≡ None
no_string None h = refl
no_string (Some content) h = cc h

no_punctuator : (token : Option Token) (rest : List ℕ) → punctuator_taken token rest ≡ None → token ≡ None
no_punctuator None rest h = refl
no_punctuator (Some token) rest h = cc h

number_stops : (c : ℕ) (cs : List ℕ) → starts_number c ≡ true → lexeme_at (c ∷ cs) ≡ None → LexemeHalts (c ∷ cs) (lexeme_remaining (c ∷ cs))
number_stops c cs n h =
    let on = number_halts c cs n (sym (at_number c cs n) ∙ h) in
    rw n (record {
      prefix = on.halts.prefix;
      split = on.halts.split;
      more = on.halts.more;
      next = on.halts.next;
      whole = number_lexeme (on.halts.prefix ++ on.halts.more) (first_unchanged starts_number on.halts.prefix on.halts.more on.starts) ∙ on.halts.whole;
      breaks = λ d ds after e. number_lexeme (on.halts.prefix ++ d ∷ after) (first_unchanged starts_number on.halts.prefix (d ∷ after) on.starts) ∙ on.halts.breaks d ds after e;
    })

string_stops : (c : ℕ) (cs : List ℕ) → c ≡ 34 → lexeme_at (c ∷ cs) ≡ None → LexemeHalts (c ∷ cs) []
string_stops c cs q h =
    let on = string_completes cs (no_string (after_one_quote cs) (sym (at_quote c cs q) ∙ h)) in
    record {
      prefix = c ∷ cs;
      split = sym (append-nil (c ∷ cs));
      more = on.0;
      next = a_token (string on.1);
      whole = at_quote c (cs ++ on.0) q ∙ ap string_taken on.2;
      breaks = λ d ds after e. cc e;
    }

other_stops : (c : ℕ) (cs : List ℕ) → starts_word c ≡ false → starts_number c ≡ false → is_quote c ≡ false → lexeme_at (c ∷ cs) ≡ None → LexemeHalts (c ∷ cs) (c ∷ cs)
other_stops c cs w n q h =
    let none = no_punctuator (punctuator_token c) cs (sym (at_other c cs w n q) ∙ h) in
    record {
      prefix = [];
      split = refl;
      more = 44 ∷ [];
      next = a_token comma;
      whole = refl;
      breaks = λ d ds after e.
          let same : c ≡ d = cc e in
          subst (λ (x : ℕ). lexeme_at (x ∷ after) ≡ None) same (at_other c after w n q ∙ ap (λ (m : Option Token). punctuator_taken m after) none);
    }

pub lexeme_halts : (c : ℕ) (cs : List ℕ) → lexeme_at (c ∷ cs) ≡ None → LexemeHalts (c ∷ cs) (lexeme_remaining (c ∷ cs))
lexeme_halts c cs h = elim (starts_word c) as (λ (b : Bool). starts_word c ≡ b → LexemeHalts (c ∷ cs) (lexeme_remaining (c ∷ cs))) [
  | true ↦ λ w. cc (sym (at_word c cs w) ∙ h)
  | false ↦ λ w. elim (starts_number c) as (λ (b : Bool). starts_number c ≡ b → LexemeHalts (c ∷ cs) (lexeme_remaining (c ∷ cs))) [
    | true ↦ λ n. number_stops c cs n h
    | false ↦ λ n. rw n (elim (eqb_tells c 34) [
      | inl q ↦ rw q.0 (string_stops c cs q.1 h)
      | inr q ↦ rw q.0 (other_stops c cs w n q.0 h)
    ])
  ] refl
] refl

-- ---- in the words of the cut

-- a text that is scanned whole is a lexeme
whole_lexeme : (text : List ℕ) (next : Next) → lexeme_at text ≡ Some (record { next = next; rest = [] }) → (token : Token) × Lexeme text token []
whole_lexeme [] next h = cc h
whole_lexeme (c ∷ cs) next h = let l = scanned_lexeme c cs (record { next = next; rest = [] }) h in (l.0, l.2)

malformed_after : (text from remaining prefix : List ℕ) → Skips text from → begins begins_gap from ≡ false → from ≡ prefix ++ remaining → CanBeginLexeme prefix
    → ((c : ℕ) (cs : List ℕ) → remaining ≡ c ∷ cs → CanBeginLexeme (prefix ++ c ∷ []) → ⊥) → CutsNothing text → IsMalformed text remaining
malformed_after text from remaining prefix (to_rest gaps are split) stop e can breaks nothing = record {
  gaps = gaps;
  prefix = prefix;
  are_gaps = are;
  split = split ∙ ap (λ (t : List ℕ). gaps_text gaps ++ t) e;
  no_gap = ap (begins begins_gap) (sym e) ∙ stop;
  can_begin = can;
  breaks = breaks;
  nothing = nothing;
}
malformed_after text from remaining prefix (to_end gaps body are none split end) stop e can breaks nothing = absurd (nothing.1 (record { gaps = gaps; last = Some body; are_gaps = are; is_last = none; split = split }))

pub malformed : (text : List ℕ) (c : ℕ) (cs : List ℕ) → after_gaps false text ≡ c ∷ cs → lexeme_at (c ∷ cs) ≡ None → CutsNothing text → IsMalformed text (lexeme_remaining (c ∷ cs))
malformed text c cs e h nothing =
    let on = lexeme_halts c cs h in
    let can = whole_lexeme (on.prefix ++ on.more) on.next on.whole in
    malformed_after text (after_gaps false text) (lexeme_remaining (c ∷ cs)) on.prefix (skips text) (after_no_gap false text) (e ∙ on.split) (on.more, can.0, can.1)
    (λ d ds r (more, token, lexeme).
    let scanned = lexeme_scanned ((on.prefix ++ d ∷ []) ++ more) [] token lexeme in
    let clash : None ≡ taken token [] = sym (on.breaks d ds more r) ∙ (ap lexeme_at (sym (append_assoc on.prefix (d ∷ []) more)) ∙ scanned) in
    cc clash) nothing
