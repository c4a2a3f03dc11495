use Rattle.std.proofs.Common.{[]}
use Rattle.nano_grammar.proofs.TokenCalls.{passed_on}
use Rattle.nano_json_schema.proofs.Calls.{text_taken, text_not, no_text}
use Rattle.nano_json_schema.proofs.variants.read_alone.Goals as goal

pub returns : goal.returns
returns c = text_taken c.args.input.now c.in_ok-name.ensures c.in_ok-next_tok.ensures

pub returns-in_err-name : goal.returns-in_err-name
returns-in_err-name c =
    passed_on _ _ c.from_residual.result c.from_residual.ensures.1 (no_text c.args.input.now _ [] c.in_err-name.ensures)

pub returns-in_err-next_tok : goal.returns-in_err-next_tok
returns-in_err-next_tok c =
    passed_on _ _ c.from_residual-in_err-next_tok.result c.from_residual-in_err-next_tok.ensures.1
    (text_not c.args.input.now c.in_ok-name.ensures c.in_err-next_tok.ensures.fails)
