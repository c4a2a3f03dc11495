use Rattle.std.proofs.Common.{sym, refl}
use Rattle.std.proofs.lemmas.Result.{MatchResult-weaker}
use Rattle.nano_grammar.proofs.ReadingCalls.{unit_read, unit_stopped, unit_not}
use Rattle.nano_json_tokens.proofs.JsonLaws.{json}
use Rattle.nano_json_tokens.specs.State.{pending}
use Rattle.nano_json_tokens.specs.Token.{null}
use Rattle.nano_json.proofs.Json.{is_the_null, not_null}
use Rattle.nano_json.proofs.bools.read_unit.Goals as goal

pub returns-then-is_null : goal.returns-then-is_null
returns-then-is_null c =
    let is = is_the_null (pending c.args.state.now) (sym c.if-is_null.ensures) in
    MatchResult-weaker c.next_tok.result c.next_tok.ensures (λ _ x. unit_read json null is x) (λ _ x. unit_stopped json null refl x.fails)

pub returns : goal.returns
returns c = unit_not json null refl (not_null (pending c.args.state.now) (sym c.if-is_null.ensures)) c.err_token.ensures
