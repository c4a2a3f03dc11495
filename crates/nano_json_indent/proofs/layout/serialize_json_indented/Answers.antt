use Rattle.std.proofs.Common.{subst, sym, ◌∙◌}
use Rattle.nano_json.proofs.Json.{legal_there}
use Rattle.nano_json_indent.specs.Layout.{AreTokensOf}
use Rattle.nano_json_indent.proofs.Tokens.{value_tokens}
use Rattle.nano_json_indent.proofs.layout.serialize_json_indented.Goals as goal

pub returns : goal.returns
returns g c =
    let f = g.T.JsonCodec.json in
    let x = c.args.value.now in
    let ts = f.canonical.tokens x in
    let written = f.is_written x (legal_there f g.met.T.JsonCodec.agrees x c.known.ensures) 0 in
    let are = (value_tokens ts (f.canonical.text 0 x) written).0 in
    c.indent.ensures ts (subst (λ bytes. AreTokensOf bytes ts) (sym (c.deref.ensures ∙ c.in_ok-text.ensures)) are)
