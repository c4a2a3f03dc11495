-- What a reader reports where no more levels may follow.
use Rattle.std.specs.Prelude.{◌≡◌, ℕ, true}
use Rattle.nano_json_tokens.specs.Outcomes.{Says, IsMadeAt}
use Rattle.nano_json_tokens.specs.declared.error.DeJsonErr.{DeJsonErr}
use Rattle.nano_json_tokens.specs.declared.state.DeJsonState.{DeJsonState}
use Rattle.nano_json_tokens.specs.declared.token.DeJsonTok.TheVariants.{Eof}
use Rattle.nano_levels.specs.Limits.{levels_message}

-- the error stands where the state stood, and has the message of this limit unless it is out of
-- memory. The state is at the end of the text
pub record RejectsLevels (limit : ℕ) (old new : DeJsonState) (e : DeJsonErr) : Type 0 where
  pub says : Says old (levels_message limit) e
  pub state : new ≡ record old { tok = Eof; cur = 0 }

-- the same of the limit that a type has where none is given
abbrev pub RejectsDepth : DeJsonState → DeJsonState → DeJsonErr → Type 0
RejectsDepth = RejectsLevels 128

-- the error is out of memory, and stands where the state stood. The state is at the end of the text
pub record RunsOut (old new : DeJsonState) (e : DeJsonErr) : Type 0 where
  pub memory : e.memory ≡ true
  pub made : IsMadeAt old e
  pub state : new ≡ record old { tok = Eof; cur = 0 }
