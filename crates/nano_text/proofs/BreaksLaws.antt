-- Where a reader of a lexeme stopped that stands there not, from what it took.
use Rattle.std.proofs.Common.{◌≡◌, ℕ, ◌<◌, List, [], ◌∷◌, ◌++◌, None, Bool, true, false, cond}
use Rattle.std.proofs.Common.{Some, refl, sym, ap, ◌∙◌, append-nil, flat_map, length, subst, IfSome}
use Rattle.std.specs.Char.{is_ascii_hexdigit}
use Rattle.std.specs.List.{AllByRecursion}
use Rattle.nano_text.specs.Breaks.{BreaksNumber, BreaksUnit, BreaksEscape, BreaksString, ended, escape}
use Rattle.nano_text.specs.Characters.{first_is}
use Rattle.nano_text.specs.Number.{is_sign, run_text, IsGood}
use Rattle.nano_text.specs.Scan.{first_if, after_run, is_minus_char}
use Rattle.nano_text.specs.ScanLaws.{run_at}
use Rattle.nano_text.specs.String.{piece_text}
use Rattle.nano_text.proofs.Runs.{run_split, run_is_run, run_ends, run_minus}
use Rattle.nano_text.proofs.Strings.{HasRead}

-- ---- numbers

-- where none is taken, none stands there
none_first : (test : ℕ → Bool) (text : List ℕ) → first_if test text ≡ None → first_is test text ≡ false
none_first test [] none = refl
none_first test (c ∷ cs) none =
    elim (test c) as (λ (b : Bool). test c ≡ b → cond b (Some c) None ≡ None → b ≡ false) [
      | true ↦ λ e some. cc some
      | false ↦ λ e some. refl
    ] refl none

-- the run that begins the text is no number, if it is not good
pub number_breaks : (text rest : List ℕ) → rest ≡ after_run text → (IsGood (run_at text) → ⊥) → BreaksNumber text rest
unfolding run_at
number_breaks text rest taken bad = record {
  parts = run_at text;
  is_run = run_is_run text;
  signed = none_first is_sign text;
  minus = subst (λ (left : List ℕ). IfSome (run_at text).exponent (λ e. e.minus ≡ false → first_is is_minus_char (e.digits ++ left) ≡ false))
      (sym taken) (run_minus text);
  bad = bad;
  split = sym (ap (λ (l : List ℕ). run_text (run_at text) ++ l) taken ∙ run_split text);
  ends = rw taken (run_ends text);
}

-- ---- escapes

no_digit : (text : List ℕ) → ((c : ℕ) (rest : List ℕ) → is_ascii_hexdigit c ≡ true → text ≡ c ∷ rest → ⊥)
    → first_is is_ascii_hexdigit text ≡ false
no_digit [] none = refl
no_digit (c ∷ cs) none =
    elim (is_ascii_hexdigit c) as (λ (b : Bool). is_ascii_hexdigit c ≡ b → b ≡ false) [
      | true ↦ λ e. absurd (none c cs e refl)
      | false ↦ λ e. refl
    ] refl

-- after these digits no further one stands
pub unit_breaks : (text before rest digits : List ℕ) → AllByRecursion (λ c. is_ascii_hexdigit c ≡ true) digits
    → length digits < 4 → text ≡ digits ++ before → rest ≡ before
    → ((c : ℕ) (left : List ℕ) → is_ascii_hexdigit c ≡ true → before ≡ c ∷ left → ⊥) → BreaksUnit text rest
unit_breaks text before rest digits hex few split same none = record {
  digits = digits;
  hex = hex;
  few = few;
  split = split ∙ ap (λ (l : List ℕ). digits ++ l) (sym same);
  ends = ap (first_is is_ascii_hexdigit) same ∙ no_digit before none;
}

-- ---- strings

-- after the pieces that were read the text ends
pub string_ends : (whole text written left : List ℕ) → whole ≡ 34 ∷ text → HasRead text written left → left ≡ []
    → BreaksString whole left
string_ends whole text written left quote h end =
    ended h.pieces h.good (quote ∙ ap (λ (l : List ℕ). 34 ∷ l)
    (h.split ∙ (ap (λ (l : List ℕ). flat_map piece_text h.pieces ++ l) end ∙ append-nil (flat_map piece_text h.pieces)))) end

-- after them an escape goes wrong
pub escape_breaks : (whole text written left after rest : List ℕ) → whole ≡ 34 ∷ text → HasRead text written left
    → left ≡ 92 ∷ after → BreaksEscape after rest → BreaksString whole rest
escape_breaks whole text written left after rest quote h is breaks =
    escape h.pieces after h.good (quote ∙ ap (λ (l : List ℕ). 34 ∷ l)
    (h.split ∙ ap (λ (l : List ℕ). flat_map piece_text h.pieces ++ l) is)) breaks
