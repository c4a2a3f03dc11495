use Rattle.nano_grammar.proofs.TokenCalls.{passed_on}
use Rattle.nano_grammar.proofs.TupleCalls.{parts_read, first_not, comma_not, others_not}
use Rattle.nano_ron_tokens.specs.Token.{parens}
use Rattle.nano_ron_tokens.proofs.RonLaws.{paren_brackets}
use Rattle.nano_ron.proofs.Ron.{ron_laws}
use Rattle.nano_ron_nested.proofs.parts.Tuple2RonPartsWithin.read_parts.Goals as goal

pub returns-in-Ok-read_parts : goal.returns-in-Ok-read_parts
returns-in-Ok-read_parts g c =
    parts_read ron_laws parens paren_brackets (g.A.RonPartWithin.part c.args.left) (g.B.RonPartsWithin.parts c.args.left) c.in_ok-first.ensures c.in-Ok.ensures c.in-Ok-read_parts.ensures

pub returns-in-Err-read_parts : goal.returns-in-Err-read_parts
returns-in-Err-read_parts g c =
    others_not ron_laws parens paren_brackets (g.A.RonPartWithin.part c.args.left) (g.B.RonPartsWithin.parts c.args.left) c.in_ok-first.ensures c.in-Ok.ensures c.in-Err-read_parts.ensures

pub returns-in-Err : goal.returns-in-Err
returns-in-Err g c =
    comma_not ron_laws parens paren_brackets (g.A.RonPartWithin.part c.args.left) (g.B.RonPartsWithin.parts c.args.left) c.in_ok-first.ensures c.in-Err.ensures.1.fails

pub returns-in_err-first : goal.returns-in_err-first
returns-in_err-first g c =
    passed_on _ _ c.from_residual.result c.from_residual.ensures.1
    (first_not ron_laws parens paren_brackets (g.A.RonPartWithin.part c.args.left) (g.B.RonPartsWithin.parts c.args.left) c.in_err-first.ensures)
