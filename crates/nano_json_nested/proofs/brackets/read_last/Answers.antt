use Rattle.nano_grammar.proofs.TokenCalls.{passed_on}
use Rattle.nano_grammar.proofs.TupleCalls.{last_read, last_not, last_comma_not, close_not}
use Rattle.nano_json_tokens.specs.Token.{blocks}
use Rattle.nano_json_tokens.proofs.JsonLaws.{block_brackets}
use Rattle.nano_json.proofs.Json.{json_laws}
use Rattle.nano_json_nested.proofs.brackets.read_last.Goals as goal

pub returns : goal.returns
returns g c =
    last_read json_laws blocks block_brackets (g.T.NestedJson.at c.args.left).encoding c.in_ok-last.ensures c.in_ok-eat_comma_block.ensures c.in_ok-block_close.ensures

pub returns-in_err-last : goal.returns-in_err-last
returns-in_err-last g c =
    passed_on _ _ c.from_residual.result c.from_residual.ensures.1
    (last_not json_laws blocks block_brackets (g.T.NestedJson.at c.args.left).encoding c.in_err-last.ensures)

pub returns-in_err-eat_comma_block : goal.returns-in_err-eat_comma_block
returns-in_err-eat_comma_block g c =
    passed_on _ _ c.from_residual-in_err-eat_comma_block.result c.from_residual-in_err-eat_comma_block.ensures.1
    (last_comma_not json_laws blocks block_brackets (g.T.NestedJson.at c.args.left).encoding c.in_ok-last.ensures c.in_err-eat_comma_block.ensures.1.fails)

pub returns-in_err-block_close : goal.returns-in_err-block_close
returns-in_err-block_close g c =
    passed_on _ _ c.from_residual-in_err-block_close.result c.from_residual-in_err-block_close.ensures.1
    (close_not json_laws blocks block_brackets (g.T.NestedJson.at c.args.left).encoding c.in_ok-last.ensures c.in_ok-eat_comma_block.ensures c.in_err-block_close.ensures.fails)
