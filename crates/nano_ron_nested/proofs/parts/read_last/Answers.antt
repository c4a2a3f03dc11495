use Rattle.nano_grammar.proofs.TokenCalls.{passed_on}
use Rattle.nano_grammar.proofs.TupleCalls.{last_read, last_not, last_comma_not, close_not}
use Rattle.nano_ron_tokens.specs.Token.{parens}
use Rattle.nano_ron_tokens.proofs.RonLaws.{paren_brackets}
use Rattle.nano_ron.proofs.Ron.{ron_laws}
use Rattle.nano_ron_nested.proofs.parts.read_last.Goals as goal

pub returns-in-Ok-paren_close : goal.returns-in-Ok-paren_close
returns-in-Ok-paren_close g c =
    last_read ron_laws parens paren_brackets (g.P.RonPartWithin.part c.args.left) c.in_ok-last.ensures c.in-Ok.ensures c.in-Ok-paren_close.ensures

pub returns-in-Err-paren_close : goal.returns-in-Err-paren_close
returns-in-Err-paren_close g c =
    close_not ron_laws parens paren_brackets (g.P.RonPartWithin.part c.args.left) c.in_ok-last.ensures c.in-Ok.ensures c.in-Err-paren_close.ensures.fails

pub returns-in-Err : goal.returns-in-Err
returns-in-Err g c =
    last_comma_not ron_laws parens paren_brackets (g.P.RonPartWithin.part c.args.left) c.in_ok-last.ensures c.in-Err.ensures.1.fails

pub returns-in_err-last : goal.returns-in_err-last
returns-in_err-last g c =
    passed_on _ _ c.from_residual.result c.from_residual.ensures.1
    (last_not ron_laws parens paren_brackets (g.P.RonPartWithin.part c.args.left) c.in_err-last.ensures)
