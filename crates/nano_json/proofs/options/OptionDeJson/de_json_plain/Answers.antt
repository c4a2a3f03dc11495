use Rattle.nano_grammar.proofs.Plain.{null_taken, some_taken}
use Rattle.nano_json_tokens.specs.Cut.{Cut, json_grammar}
use Rattle.nano_json.proofs.options.OptionDeJson.de_json_plain.Goals as goal

pub returns-then-may_be_null : goal.returns-then-may_be_null
returns-then-may_be_null g c =
    let null = c.in_ok-take_null.ensures in
    (null_taken Cut json_grammar g.T.JsonCodec.json.encoding.encodes null.0, null.1)

pub returns : goal.returns
returns g c =
    let s = g.T.JsonCodec.json.encoding in
    let value = c.in_ok-value.ensures in
    (some_taken Cut json_grammar s.encodes (g.T.Value.means c.in_ok-value.value) s.laws.begins (c.may_be_null.ensures c.if-may_be_null.false) value.0, value.1)
