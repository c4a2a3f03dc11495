use Rattle.nano_grammar.proofs.TokenCalls.{passed_on}
use Rattle.nano_grammar.proofs.TupleCalls.{parts_read, first_not, comma_not, others_not}
use Rattle.nano_json_tokens.specs.Token.{blocks}
use Rattle.nano_json_tokens.proofs.JsonLaws.{block_brackets}
use Rattle.nano_json.specs.ContainerCodecs.{last_codec}
use Rattle.nano_json.proofs.Json.{json_laws}
use Rattle.nano_json.proofs.tuples.read_two.Goals as goal

pub returns : goal.returns
returns g c =
    parts_read json_laws blocks block_brackets g.A.JsonCodec.json.encoding (last_codec g.B.JsonCodec.json).encoding c.in_ok-first.ensures c.in_ok-eat_comma_block.ensures
    c.in_ok-last.ensures

pub returns-in_err-first : goal.returns-in_err-first
returns-in_err-first g c =
    passed_on _ _ c.from_residual.result c.from_residual.ensures.1
    (first_not json_laws blocks block_brackets g.A.JsonCodec.json.encoding (last_codec g.B.JsonCodec.json).encoding c.in_err-first.ensures)

pub returns-in_err-eat_comma_block : goal.returns-in_err-eat_comma_block
returns-in_err-eat_comma_block g c =
    passed_on _ _ c.from_residual-in_err-eat_comma_block.result c.from_residual-in_err-eat_comma_block.ensures.1
    (comma_not json_laws blocks block_brackets g.A.JsonCodec.json.encoding (last_codec g.B.JsonCodec.json).encoding c.in_ok-first.ensures c.in_err-eat_comma_block.ensures.1.fails)

pub returns-in_err-last : goal.returns-in_err-last
returns-in_err-last g c =
    passed_on _ _ c.from_residual-in_err-last.result c.from_residual-in_err-last.ensures.1
    (others_not json_laws blocks block_brackets g.A.JsonCodec.json.encoding (last_codec g.B.JsonCodec.json).encoding c.in_ok-first.ensures c.in_ok-eat_comma_block.ensures
    c.in_err-last.ensures)
