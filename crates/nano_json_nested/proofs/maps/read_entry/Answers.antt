use Rattle.nano_grammar.proofs.TokenCalls.{passed_on}
use Rattle.nano_grammar.proofs.ReadingCalls.{entry_read, key_not, colon_not, value_not}
use Rattle.nano_json_tokens.specs.Token.{colon}
use Rattle.nano_json.proofs.Json.{json_laws}
use Rattle.nano_json_nested.proofs.maps.read_entry.Goals as goal

pub returns : goal.returns
returns g c =
    entry_read json_laws colon g.K.JsonCodec.json.encoding.laws (g.T.NestedJson.at c.args.left).encoding.encodes c.in_ok-key.ensures c.in_ok-colon.ensures c.in_ok-value.ensures

pub returns-in_err-key : goal.returns-in_err-key
returns-in_err-key g c =
    passed_on _ _ c.from_residual.result c.from_residual.ensures.1
    (key_not json_laws colon g.K.JsonCodec.json.encoding.laws (g.T.NestedJson.at c.args.left).encoding.encodes c.in_err-key.ensures)

pub returns-in_err-colon : goal.returns-in_err-colon
returns-in_err-colon g c =
    passed_on _ _ c.from_residual-in_err-colon.result c.from_residual-in_err-colon.ensures.1
    (colon_not json_laws colon g.K.JsonCodec.json.encoding.laws (g.T.NestedJson.at c.args.left).encoding.encodes c.in_ok-key.ensures c.in_err-colon.ensures.fails)

pub returns-in_err-value : goal.returns-in_err-value
returns-in_err-value g c =
    passed_on _ _ c.from_residual-in_err-value.result c.from_residual-in_err-value.ensures.1
    (value_not json_laws colon g.K.JsonCodec.json.encoding.laws (g.T.NestedJson.at c.args.left).encoding.encodes c.in_ok-key.ensures c.in_ok-colon.ensures c.in_err-value.ensures)
