use Rattle.std.proofs.Common.{[], ◌∷◌, refl, string_bytes}
use Rattle.std.proofs.lemmas.Result.{MatchResult-weaker}
use Rattle.nano_grammar.specs.Faults.{AreTokens}
use Rattle.nano_grammar.proofs.FaultLaws.{stopped_here}
use Rattle.nano_grammar.proofs.TokenCalls.{passed_on}
use Rattle.nano_json_tokens.specs.Cut.{Cut}
use Rattle.nano_json_tokens.specs.State.{pending}
use Rattle.nano_json_tokens.specs.Token.{colon}
use Rattle.nano_json_schema.proofs.FieldNames.{pending_taken, pending_not}
use Rattle.nano_json_schema.proofs.names.take_name.Goals as goal

pub returns : goal.returns
returns c =
    let still = c.move_name.ensures.still c.next_tok.new.i in
    let h = c.in_ok-next_tok.ensures in
    MatchResult-weaker c.colon.result c.colon.ensures
    (λ _ k. pending_taken c.requires h (string_bytes c.move_name.new.name) still c.move_name.ensures.moved k)
    (λ e k. pending_not c.requires h still k.fails)

pub returns-in_err-next_tok : goal.returns-in_err-next_tok
returns-in_err-next_tok c =
    passed_on _ _ c.from_residual.result c.from_residual.ensures.1
    (stopped_here Cut (AreTokens (pending c.args.state.now ∷ (colon ∷ []))) refl (λ v e. absurd (cc e)) c.in_err-next_tok.ensures.fails)
