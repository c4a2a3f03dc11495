use Rattle.std.proofs.Common.{ap, string_bytes, rules}
use Rattle.nano_json_tokens.specs.State.{token_of}
use Rattle.nano_json_tokens.specs.Token.{block_open}
use Rattle.nano_json_tokens.proofs.Calling.{takes_one, rejects_other}
use Rattle.nano_json_tokens.proofs.state.DeJsonState.block_open.Goals as goal

pub returns-in-BlockOpen : goal.returns-in-BlockOpen
returns-in-BlockOpen c =
    let s = c.args.self.now in
    let is = ap (λ t. token_of t (string_bytes s.strbuf) (string_bytes s.numbuf)) c.in-BlockOpen.is in
    takes_one block_open s c.scan_other_token.new.self c.args.i.now c.scan_other_token.new.i is c.scan_other_token.result c.scan_other_token.ensures

pub returns-in_default : goal.returns-in_default
returns-in_default c = rejects_other block_open c.args.self.now c.args.i.now c.err_token.result (search rules) c.err_token.ensures
