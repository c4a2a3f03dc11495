use Rattle.std.proofs.lemmas.Result.{MatchResult-weaker}
use Rattle.nano_grammar.proofs.TokenCalls.{passed_on}
use Rattle.nano_json_tokens.proofs.Calling.{colon_after, no_colon_after, no_colon_uncut}
use Rattle.nano_json_tokens.proofs.state.DeJsonState.next_colon.Goals as goal

pub returns-in_err-next_tok : goal.returns-in_err-next_tok
returns-in_err-next_tok c =
    passed_on _ _ c.from_residual.result c.from_residual.ensures.1
    (no_colon_uncut c.args.self.now c.next_tok.new.self c.args.i.now c.next_tok.new.i _ c.in_err-next_tok.ensures)

pub returns : goal.returns
returns c =
    let old = c.args.self.now in
    let mid = c.next_tok.new.self in
    let i = c.args.i.now in
    let j = c.next_tok.new.i in
    let h = c.in_ok-next_tok.ensures in
    MatchResult-weaker c.colon.result c.colon.ensures (λ _ x. colon_after old mid i j h c.colon.new.self c.colon.new.i x)
    (λ e x. no_colon_after old mid i j h c.colon.new.self c.colon.new.i e x)
