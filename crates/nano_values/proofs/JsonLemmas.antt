-- What the reader of values one after the other knows of JSON's tokens.
use Rattle.std.proofs.Common.{◌≡◌, ◌≢◌, ℕ, List, [], ◌∷◌, ◌++◌, Result, Ok, Err, Option, None, MatchResult, MatchOption}
use Rattle.std.proofs.Common.{chars, refl, sym, ap, subst, ◌∙◌, inl, inr, arith}
use Rattle.std.proofs.lemmas.Str.{chars-IsAscii}
use Rattle.nano_value.specs.Meaning.{Meaning}
use Rattle.nano_grammar.specs.Codec.{IsEncoding}
use Rattle.nano_grammar.specs.Outcomes.{HoldsNul}
use Rattle.nano_values.specs.Values.{IsOver, TakesValue}
use Rattle.nano_values.proofs.ValuesLaws.{nul_follows, is_over}
use Rattle.nano_json_tokens.specs.Cut.{json_grammar}
use Rattle.nano_json_tokens.specs.declared.error.DeJsonErr.{DeJsonErr}
use Rattle.nano_values.specs.declared.json.Values.{Values}
use Rattle.nano_values.specs.JsonValues.{standing, HasEnded, Gives, Rejects, TakesFirst, Ends, FindsNul}
use Rattle.nano_json.proofs.Json.{json_laws}
use Rattle.nano_json_tokens.specs.Cut.{Cut, IsLexeme, punctuator, word, number, quoted, nothing}
use Rattle.nano_json_tokens.specs.State.{pending, token_of}
use Rattle.nano_json_tokens.specs.Token.{Token, bof, end}
use Rattle.nano_json_tokens.specs.declared.state.DeJsonState.{DeJsonState}
use Rattle.nano_json_tokens.specs.declared.token.DeJsonTok.{DeJsonTok}
use Rattle.nano_json_tokens.specs.declared.token.DeJsonTok.TheVariants.{Bof, Eof}

bof_is_no_lexeme : (text rest : List ℕ) → IsLexeme bof text rest → ⊥
bof_is_no_lexeme text rest h = elim h [
  | punctuator x ↦ x
  | word x ↦ x
  | number e x ↦ x
  | quoted x ↦ x
  | nothing x ↦ x
]

-- `Bof` is cut from no text
pub bof_uncut : (text rest : List ℕ) → Cut text bof rest → ⊥
bof_uncut text rest h = bof_is_no_lexeme h.body rest h.lexeme

-- ---- the pending token

pub is_bof : (s : DeJsonState) → s.tok ≡ Bof → pending s ≡ bof
is_bof s is = rw is refl

pub is_eof : (s : DeJsonState) → s.tok ≡ Eof → pending s ≡ end
is_eof s is = rw is refl

bof_token : (t : DeJsonTok) (a b : List ℕ) → token_of t a b ≡ bof → t ≡ Bof
bof_token Bof a b e = refl
bof_token _ a b e = cc e

eof_token : (t : DeJsonTok) (a b : List ℕ) → token_of t a b ≡ end → t ≡ Eof
eof_token Eof a b e = refl
eof_token _ a b e = cc e

pub not_bof : (s : DeJsonState) → s.tok ≢ Bof → pending s ≢ bof
not_bof s other e = other (bof_token s.tok _ _ e)

pub not_eof : (s : DeJsonState) → s.tok ≢ Eof → pending s ≢ end
not_eof s other e = other (eof_token s.tok _ _ e)

-- ---- where nothing is left

empty_holds_none : (prefix following : List ℕ) → [] ≡ prefix ++ 0 ∷ following → ⊥
empty_holds_none [] following e = cc
empty_holds_none (c ∷ cs) following e = cc

no_nul_in_nothing : (bytes : List ℕ) → bytes ≡ [] → HoldsNul bytes → ⊥
no_nul_in_nothing bytes is h =
    empty_holds_none h.0 h.1
    (sym (chars-IsAscii [] (λ i. omega arith)) ∙ subst (λ (b : List ℕ). chars b ≡ h.0 ++ 0 ∷ h.1) is h.2)

-- the end is pending still
pub end_is_pending : (old begun : Values) → TakesFirst old begun → HasEnded old → pending begun.state ≡ end
end_is_pending old begun b h = elim b.next [
  | inl x ↦ ap (λ at. at.token) x.1 ∙ h.at_end
  | inr x ↦ let wrong : bof ≡ end = sym x.0 ∙ h.at_end in absurd (cc)
]

pub ended_gives_none : {A : Type 0} (old begun new : Values) (r : Result (Option A) DeJsonErr)
    → begun.text ≡ old.text → HasEnded old → MatchResult r (Ends begun new) (FindsNul begun new) → r ≡ Ok None
ended_gives_none old begun new (Ok found) same h k = ap (λ o. Ok o) k.none
ended_gives_none old begun new (Err e) same h k =
    absurd (no_nul_in_nothing begun.text.now (ap (λ t. t.now) same ∙ h.nothing) k.nul)

-- ---- what a call comes to

module _ {P : Meaning → Type 0} {S : List Token → Meaning → Type 0} (s : IsEncoding json_grammar P S) {A : Type 0} (means : A → Meaning)
    (old begun new : Values) (b : TakesFirst old begun) (same : begun.text ≡ old.text) where
  pub gives_none : (found : Option A) → pending begun.state ≡ end → Ends begun new found → Gives S old new means found
  gives_none found is h = record {
    is =
        subst (λ (o : Option A). MatchOption o (IsOver Cut bof end old.text.now (standing old) (standing new))
        (λ x. TakesValue Cut S bof (standing old) (standing new) (means x))) (sym h.none)
        (subst (λ (v : Values). IsOver Cut bof end old.text.now (standing old) (standing v)) (sym h.same)
        (is_over json_laws bof bof_uncut s b is
        (subst (λ (l : List ℕ). HoldsNul l → ⊥) (ap (λ t. t.now) same) h.no_nul)));
    same = ap (λ (v : Values). v.text) h.same ∙ same;
  }

  pub rejects_nul : (e : DeJsonErr) → pending begun.state ≡ end → FindsNul begun new e → Rejects S old new e
  rejects_nul e is h = record {
    none =
        nul_follows json_laws bof bof_uncut s b is (subst HoldsNul (ap (λ t. t.now) same) h.nul) h.made h.given_up;
    nothing = h.nothing;
  }
