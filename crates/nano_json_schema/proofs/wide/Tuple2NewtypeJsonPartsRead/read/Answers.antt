use Rattle.std.proofs.Common.{sym}
use Rattle.nano_grammar.proofs.TokenCalls.{passed_on}
use Rattle.nano_grammar.proofs.TupleCalls.{parts_read, first_not, comma_not, others_not}
use Rattle.nano_json_tokens.specs.Token.{blocks}
use Rattle.nano_json_tokens.proofs.JsonLaws.{block_brackets}
use Rattle.nano_json.proofs.Json.{json_laws}
use Rattle.nano_json_schema.proofs.wide.Tuple2NewtypeJsonPartsRead.read.Goals as goal

pub returns : goal.returns
returns g c =
    let first = rw (sym g.met.T.JsonCodec.agrees.means_is) at c.in_ok-first.ensures in
    parts_read json_laws blocks block_brackets g.T.JsonCodec.json.encoding g.R.JsonPartsRead.codec.encoding first c.in_ok-eat_comma_block.ensures
    c.in_ok-others.ensures

pub returns-in_err-first : goal.returns-in_err-first
returns-in_err-first g c =
    passed_on _ _ c.from_residual.result c.from_residual.ensures.1
    (first_not json_laws blocks block_brackets g.T.JsonCodec.json.encoding g.R.JsonPartsRead.codec.encoding c.in_err-first.ensures)

pub returns-in_err-eat_comma_block : goal.returns-in_err-eat_comma_block
returns-in_err-eat_comma_block g c =
    let first = rw (sym g.met.T.JsonCodec.agrees.means_is) at c.in_ok-first.ensures in
    passed_on _ _ c.from_residual-in_err-eat_comma_block.result c.from_residual-in_err-eat_comma_block.ensures.1
    (comma_not json_laws blocks block_brackets g.T.JsonCodec.json.encoding g.R.JsonPartsRead.codec.encoding first c.in_err-eat_comma_block.ensures.1.fails)

pub returns-in_err-others : goal.returns-in_err-others
returns-in_err-others g c =
    let first = rw (sym g.met.T.JsonCodec.agrees.means_is) at c.in_ok-first.ensures in
    passed_on _ _ c.from_residual-in_err-others.result c.from_residual-in_err-others.ensures.1
    (others_not json_laws blocks block_brackets g.T.JsonCodec.json.encoding g.R.JsonPartsRead.codec.encoding first c.in_ok-eat_comma_block.ensures
    c.in_err-others.ensures)
