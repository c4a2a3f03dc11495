use Rattle.std.proofs.Common.{ap, string_bytes, rules}
use Rattle.nano_json_tokens.specs.State.{token_of}
use Rattle.nano_json_tokens.specs.Token.{block_close}
use Rattle.nano_json_tokens.proofs.Calling.{takes_one, rejects_other}
use Rattle.nano_json_tokens.proofs.state.DeJsonState.block_close.Goals as goal

pub returns-in-BlockClose : goal.returns-in-BlockClose
returns-in-BlockClose c =
    let s = c.args.self.now in
    let is = ap (λ t. token_of t (string_bytes s.strbuf) (string_bytes s.numbuf)) c.in-BlockClose.is in
    takes_one block_close s c.next_tok.new.self c.args.i.now c.next_tok.new.i is c.next_tok.result c.next_tok.ensures

pub returns-in_default : goal.returns-in_default
returns-in_default c = rejects_other block_close c.args.self.now c.args.i.now c.err_token.result (search rules) c.err_token.ensures
