use Rattle.nano_json.proofs.Json.{legal_there}
use Rattle.nano_json_indent.specs.declared.kind.Kind.TheVariants.{Start}
use Rattle.nano_json_indent.proofs.Tokens.{value_tokens}
use Rattle.nano_json_indent.proofs.Laying.{laid_is_cut}
use Rattle.nano_json_indent.proofs.laws.indented_text_has_the_same_tokens.Goals as goal

pub returns : goal.returns
returns g c =
    let f = g.T.JsonCodec.json in
    let x = c.args.value.now in
    let written = f.is_written x (legal_there f g.met.T.JsonCodec.agrees x c.known.ensures) 0 in
    λ rest h. laid_is_cut 0 Start (f.canonical.tokens x) rest (value_tokens (f.canonical.tokens x) (f.canonical.text 0 x) written).1 h
