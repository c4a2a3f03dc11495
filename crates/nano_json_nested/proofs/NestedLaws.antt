-- What is proved of a type that contains itself where no level is left, or no memory.
use Rattle.std.proofs.Common.{◌≡◌, ℕ, List, [], ◌∷◌, refl, subst, ap}
use Rattle.std.specs.declared.str.Chars.{Chars}
use Rattle.nano_value.specs.Meaning.{Meaning}
use Rattle.nano_grammar.specs.Outcomes.{Position, ReadsNoneAndEnds}
use Rattle.nano_grammar.proofs.FaultLaws.{goes_wrong, none_ended}
use Rattle.nano_grammar.proofs.TokenCalls.{fails_here, fails_for_memory}
use Rattle.nano_text.proofs.PlaceLaws.{moves_none}
use Rattle.nano_json_tokens.specs.Breaks.{Breaks}
use Rattle.nano_json_tokens.specs.Cut.{Cut, json_grammar}
use Rattle.nano_json_tokens.specs.Outcomes.{report, position}
use Rattle.nano_json_tokens.specs.State.{ended, pending}
use Rattle.nano_json_tokens.specs.Token.{Token}
use Rattle.nano_json_tokens.specs.declared.error.DeJsonErr.{DeJsonErr}
use Rattle.nano_json_tokens.specs.declared.state.DeJsonState.{DeJsonState}
use Rattle.nano_json_tokens.proofs.Calling.{gives_up}
use Rattle.nano_json_tokens.proofs.JsonLaws.{json}
use Rattle.nano_levels.specs.Layers.{Nested}
use Rattle.nano_levels.proofs.LevelsLaws.{level, level_none}
use Rattle.nano_json_nested.specs.Depth.{RejectsLevels, RunsOut}

-- where nothing is encoded, too deep is no less than the truth
pub nothing_there : {old new : DeJsonState} {e : DeJsonErr} {limit : ℕ}
    (E : List Token → Meaning → Type 0)
    (i : Chars) → ((ts : List Token) (m : Meaning) → E ts m → ⊥) → RejectsLevels limit old new e
    → ReadsNoneAndEnds Cut Breaks E (position old i) (position new i) ended (report e)
nothing_there {old} {new} E i none h =
    let up = gives_up old new i h.state in
    let wrong = goes_wrong Cut E (position old i) refl (none []) (λ ts. none (pending old ∷ ts)) in
    record {
      fails = none_ended Cut E ended up (fails_here wrong h.says.1);
      ended = ap (λ (p : Position Token). p.at) up;
    }

-- and out of memory says nothing of what is there
pub ran_out : {old new : DeJsonState} {e : DeJsonErr} (E : List Token → Meaning → Type 0)
    (i : Chars) → RunsOut old new e
    → ReadsNoneAndEnds Cut Breaks E (position old i) (position new i) ended (report e)
ran_out {old} {new} E i h =
    let up = gives_up old new i h.state in
    record {
      fails = none_ended Cut E {mid = position old i} ended up
          (fails_for_memory (moves_none _ _) h.memory h.made);
      ended = ap (λ (p : Position Token). p.at) up;
    }

-- no level is left
pub none_left : {A : Type 0} (l : Nested json json_grammar A) {limit : ℕ}
    {old new : DeJsonState} {e : DeJsonErr} (left : ℕ) (i : Chars) → left ≡ 0
    → RejectsLevels limit old new e
    → ReadsNoneAndEnds Cut Breaks (level l left).encoding.encodes (position old i) (position new i) ended
    (report e)
none_left l left i is h =
    let E = (level l left).encoding.encodes in
    nothing_there E i (λ ts m k. level_none l m ts
    (subst (λ n. (level l n).encoding.encodes ts m) is k)) h
