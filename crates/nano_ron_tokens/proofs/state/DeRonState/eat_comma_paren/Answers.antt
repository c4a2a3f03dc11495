use Rattle.std.proofs.Common.{ap, refl, string_bytes, rules}
use Rattle.nano_grammar.proofs.TokenCalls.{took_no_comma}
use Rattle.nano_ron_tokens.specs.State.{token_of}
use Rattle.nano_ron_tokens.specs.Token.{comma, paren_close}
use Rattle.nano_ron_tokens.proofs.Calling.{keeps_all, takes_comma, rejects_comma}
use Rattle.nano_ron_tokens.proofs.state.DeRonState.eat_comma_paren.Goals as goal

pub returns-in-Comma : goal.returns-in-Comma
returns-in-Comma c =
    let s = c.args.self.now in
    let is = ap (λ t. token_of t (string_bytes s.strbuf) (string_bytes s.numbuf) (string_bytes s.identbuf)) c.in-Comma.is in
    takes_comma paren_close (λ e. cc e) s c.scan_value_token.new.self c.args.i.now c.scan_value_token.new.i is c.scan_value_token.result c.scan_value_token.ensures

pub returns-in-ParenClose : goal.returns-in-ParenClose
returns-in-ParenClose c =
    let s = c.args.self.now in
    took_no_comma comma paren_close (ap (λ t. token_of t (string_bytes s.strbuf) (string_bytes s.numbuf) (string_bytes s.identbuf)) c.in-ParenClose.is) (keeps_all s) (refl, refl)

pub returns-in_default : goal.returns-in_default
returns-in_default c = rejects_comma paren_close c.args.self.now c.args.i.now c.err_token.result (search rules) (search rules) c.err_token.ensures
