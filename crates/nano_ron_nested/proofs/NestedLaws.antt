-- What is proved of a type that contains itself, where its values are seen by one layer: what is
-- read, and what is rejected.
use Rattle.std.proofs.Common.{◌≡◌, ℕ, suc, List, [], ◌∷◌, refl, sym, subst, ap}
use Rattle.std.specs.declared.str.Chars.{Chars}
use Rattle.nano_value.specs.Meaning.{Meaning}
use Rattle.nano_grammar.specs.Outcomes.{Position, Read, Report, ReadsNoneAndEnds}
use Rattle.nano_grammar.proofs.FaultLaws.{goes_wrong, none_ended}
use Rattle.nano_grammar.proofs.TokenCalls.{fails_here, fails_for_memory, none_as}
use Rattle.nano_text.proofs.PlaceLaws.{moves_none}
use Rattle.nano_ron_tokens.specs.Breaks.{Breaks}
use Rattle.nano_ron_tokens.specs.Cut.{Cut, ron_grammar}
use Rattle.nano_ron_tokens.specs.Outcomes.{report, position}
use Rattle.nano_ron_tokens.specs.State.{ended, pending}
use Rattle.nano_ron_tokens.specs.Token.{Token}
use Rattle.nano_ron_tokens.specs.declared.error.DeRonErr.{DeRonErr}
use Rattle.nano_ron_tokens.specs.declared.state.DeRonState.{DeRonState}
use Rattle.nano_ron_tokens.proofs.Calling.{gives_up}
use Rattle.nano_ron_tokens.proofs.RonLaws.{ron}
use Rattle.nano_levels.specs.Layers.{Nested}
use Rattle.nano_levels.proofs.LevelsLaws.{level, level_holds, level_content, level_none}
use Rattle.nano_ron_nested.specs.Depth.{RejectsLevels, RunsOut}

-- where nothing is encoded, too deep is no less than the truth
pub nothing_there : {old new : DeRonState} {e : DeRonErr} {limit : ℕ}
    (E : List Token → Meaning → Type 0)
    (i : Chars) → ((ts : List Token) (m : Meaning) → E ts m → ⊥) → RejectsLevels limit old new e
    → ReadsNoneAndEnds Cut Breaks E (position old i) (position new i) ended (report e)
nothing_there {old} {new} E i none h =
    let up = gives_up old new i h.state in
    let wrong = goes_wrong Cut E (position old i) refl (none []) (λ ts. none (pending old ∷ ts)) in
    record {
      fails = none_ended Cut E ended up (fails_here wrong h.says.1);
      ended = ap (λ (p : Position Token). p.at) up;
    }

-- and out of memory says nothing of what is there
pub ran_out : {old new : DeRonState} {e : DeRonErr} (E : List Token → Meaning → Type 0)
    (i : Chars) → RunsOut old new e
    → ReadsNoneAndEnds Cut Breaks E (position old i) (position new i) ended (report e)
ran_out {old} {new} E i h =
    let up = gives_up old new i h.state in
    record {
      fails = none_ended Cut E {mid = position old i} ended up
          (fails_for_memory (moves_none _ _) h.memory h.made);
      ended = ap (λ (p : Position Token). p.at) up;
    }

module _ {A : Type 0} (l : Nested ron ron_grammar A) where
  -- the values of at most so many levels are encoded so
  abbrev pub Encodes : ℕ → List Token → Meaning → Type 0
  Encodes n = (level l n).encoding.encodes

  -- and those around them
  abbrev pub EncodesAround : ℕ → List Token → Meaning → Type 0
  EncodesAround n = (l.layer.codec (level l n)).encoding.encodes

  -- no level is left
  pub none_left : {limit : ℕ} {old new : DeRonState} {e : DeRonErr} (left : ℕ) (i : Chars)
      → left ≡ 0 → RejectsLevels limit old new e
      → ReadsNoneAndEnds Cut Breaks (Encodes left) (position old i) (position new i) ended (report e)
  none_left left i is h =
      nothing_there (Encodes left) i
      (λ ts m k. level_none l m ts (subst (λ n. Encodes n ts m) is k)) h

  -- one level is left at least
  module _ (start end : Position Token) (left n : ℕ) (is : left ≡ suc n) where
    pub value_read : (x : A) (m : Meaning) → m ≡ l.means x
        → Read Cut (EncodesAround n) start end m → Read Cut (Encodes left) start end (l.means x)
    value_read x m same h =
        subst (λ k. Read Cut (Encodes k) start end (l.means x)) (sym is) (record {
          decodes = (
            h.decodes.0,
            level_holds l n (l.means x) h.decodes.0
                (subst (λ k. EncodesAround n h.decodes.0 k) same h.decodes.1),
            h.decodes.2,
          );
          place = h.place;
        })

    pub value_not : {e : Report} → ReadsNoneAndEnds Cut Breaks (EncodesAround n) start end ended e
        → ReadsNoneAndEnds Cut Breaks (Encodes left) start end ended e
    value_not {e} h =
        subst (λ k. ReadsNoneAndEnds Cut Breaks (Encodes k) start end ended e) (sym is) (record {
          fails = none_as Cut (Encodes (suc n)) (EncodesAround n)
              (λ ts m k. (m, level_content l n m ts k)) h.fails;
          ended = h.ended;
        })
