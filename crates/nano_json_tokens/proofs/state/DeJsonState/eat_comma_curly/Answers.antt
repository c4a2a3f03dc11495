use Rattle.std.proofs.Common.{ap, refl, string_bytes, rules}
use Rattle.nano_grammar.proofs.TokenCalls.{took_no_comma}
use Rattle.nano_json_tokens.specs.State.{token_of}
use Rattle.nano_json_tokens.specs.Token.{comma, curly_close}
use Rattle.nano_json_tokens.proofs.Calling.{keeps_all, takes_comma, rejects_comma}
use Rattle.nano_json_tokens.proofs.state.DeJsonState.eat_comma_curly.Goals as goal

pub returns-in-Comma : goal.returns-in-Comma
returns-in-Comma c =
    let s = c.args.self.now in
    let is = ap (λ t. token_of t (string_bytes s.strbuf) (string_bytes s.numbuf)) c.in-Comma.is in
    takes_comma curly_close (λ e. cc e) s c.scan_other_token.new.self c.args.i.now c.scan_other_token.new.i is c.scan_other_token.result c.scan_other_token.ensures

pub returns-in-CurlyClose : goal.returns-in-CurlyClose
returns-in-CurlyClose c =
    let s = c.args.self.now in
    took_no_comma comma curly_close (ap (λ t. token_of t (string_bytes s.strbuf) (string_bytes s.numbuf)) c.in-CurlyClose.is) (keeps_all s) (refl, refl)

pub returns-in_default : goal.returns-in_default
returns-in_default c = rejects_comma curly_close c.args.self.now c.args.i.now c.err_token.result (search rules) (search rules) c.err_token.ensures
