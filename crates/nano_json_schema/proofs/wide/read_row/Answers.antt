use Rattle.std.proofs.lemmas.Result.{MatchResult-weaker}
use Rattle.nano_grammar.proofs.TokenCalls.{passed_on}
use Rattle.nano_grammar.proofs.TupleCalls.{tuple_read, open_not, parts_not}
use Rattle.nano_json_tokens.specs.Token.{blocks}
use Rattle.nano_json_tokens.proofs.JsonLaws.{block_brackets}
use Rattle.nano_json.proofs.Json.{json_laws}
use Rattle.nano_json_schema.proofs.wide.read_row.Goals as goal

pub returns : goal.returns
returns g c =
    let s = g.P.JsonPartsRead.codec.encoding in
    MatchResult-weaker c.read.result c.read.ensures (λ _ x. tuple_read json_laws blocks block_brackets s c.in_ok-block_open.ensures x)
    (λ _ x. parts_not json_laws blocks block_brackets s c.in_ok-block_open.ensures x)

pub returns-in_err-block_open : goal.returns-in_err-block_open
returns-in_err-block_open g c =
    passed_on _ _ c.from_residual.result c.from_residual.ensures.1
    (open_not json_laws blocks block_brackets g.P.JsonPartsRead.codec.encoding c.in_err-block_open.ensures.fails)
