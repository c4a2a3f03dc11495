use Rattle.nano_grammar.proofs.TokenCalls.{passed_on}
use Rattle.nano_grammar.proofs.TupleCalls.{last_read, last_not, last_comma_not, close_not}
use Rattle.nano_ron_tokens.specs.Token.{parens}
use Rattle.nano_ron_tokens.proofs.RonLaws.{paren_brackets}
use Rattle.nano_ron.proofs.Ron.{ron_laws}
use Rattle.nano_ron_schema.proofs.brackets.read_last.Goals as goal

pub returns : goal.returns
returns g c =
    last_read ron_laws parens paren_brackets g.T.RonCodec.ron.encoding c.in_ok-last.ensures c.in_ok-eat_comma_paren.ensures c.in_ok-paren_close.ensures

pub returns-in_err-last : goal.returns-in_err-last
returns-in_err-last g c =
    passed_on _ _ c.from_residual.result c.from_residual.ensures.1
    (last_not ron_laws parens paren_brackets g.T.RonCodec.ron.encoding c.in_err-last.ensures)

pub returns-in_err-eat_comma_paren : goal.returns-in_err-eat_comma_paren
returns-in_err-eat_comma_paren g c =
    passed_on _ _ c.from_residual-in_err-eat_comma_paren.result c.from_residual-in_err-eat_comma_paren.ensures.1
    (last_comma_not ron_laws parens paren_brackets g.T.RonCodec.ron.encoding c.in_ok-last.ensures c.in_err-eat_comma_paren.ensures.1.fails)

pub returns-in_err-paren_close : goal.returns-in_err-paren_close
returns-in_err-paren_close g c =
    passed_on _ _ c.from_residual-in_err-paren_close.result c.from_residual-in_err-paren_close.ensures.1
    (close_not ron_laws parens paren_brackets g.T.RonCodec.ron.encoding c.in_ok-last.ensures c.in_ok-eat_comma_paren.ensures c.in_err-paren_close.ensures.fails)
