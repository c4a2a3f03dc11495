use Rattle.std.proofs.Common.{[], ◌∷◌}
use Rattle.std.proofs.lemmas.Result.{MatchResult-weaker}
use Rattle.nano_grammar.proofs.TokenCalls.{taken}
use Rattle.nano_json_tokens.specs.Cut.{Cut}
use Rattle.nano_json_tokens.specs.Token.{curly_close}
use Rattle.nano_json_schema.proofs.Calls.{ended_take}
use Rattle.nano_json_nested.proofs.contents.close_content.Goals as goal

pub returns : goal.returns
returns c =
    ended_take (λ _. curly_close ∷ []) _ _ c.curly_close-closed.new.i c.end_on_error.ensures
    (MatchResult-weaker c.curly_close-closed.result c.curly_close-closed.ensures (λ _ h. taken Cut h) (λ e h. h.fails))
