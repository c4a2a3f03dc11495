use Rattle.std.proofs.Common.{ap, string_bytes, rules}
use Rattle.nano_json_tokens.specs.State.{token_of}
use Rattle.nano_json_tokens.specs.Token.{curly_open}
use Rattle.nano_json_tokens.proofs.Calling.{takes_one, rejects_other}
use Rattle.nano_json_tokens.proofs.state.DeJsonState.curly_open.Goals as goal

pub returns-in-CurlyOpen : goal.returns-in-CurlyOpen
returns-in-CurlyOpen c =
    let s = c.args.self.now in
    let is = ap (λ t. token_of t (string_bytes s.strbuf) (string_bytes s.numbuf)) c.in-CurlyOpen.is in
    takes_one curly_open s c.scan_other_token.new.self c.args.i.now c.scan_other_token.new.i is c.scan_other_token.result c.scan_other_token.ensures

pub returns-in_default : goal.returns-in_default
returns-in_default c = rejects_other curly_open c.args.self.now c.args.i.now c.err_token.result (search rules) c.err_token.ensures
