use Rattle.std.proofs.Common.{[], ◌∷◌}
use Rattle.nano_grammar.proofs.TokenCalls.{passed_on}
use Rattle.nano_json_tokens.specs.Token.{colon}
use Rattle.nano_json_schema.proofs.Calls.{key_taken, key_not, no_text}
use Rattle.nano_json_nested.proofs.read.take_name.Goals as goal

pub returns : goal.returns
returns c = key_taken c.args.input.now c.in_ok-name.ensures c.in_ok-next_colon.ensures

pub returns-in_err-name : goal.returns-in_err-name
returns-in_err-name c =
    passed_on _ _ c.from_residual.result c.from_residual.ensures.1
    (no_text c.args.input.now _ (colon ∷ []) c.in_err-name.ensures)

pub returns-in_err-next_colon : goal.returns-in_err-next_colon
returns-in_err-next_colon c =
    passed_on _ _ c.from_residual-in_err-next_colon.result c.from_residual-in_err-next_colon.ensures.1
    (key_not c.args.input.now c.in_ok-name.ensures c.in_err-next_colon.ensures.fails)
