use Rattle.nano_grammar.proofs.TokenCalls.{passed_on}
use Rattle.nano_grammar.proofs.TupleCalls.{parts_read, first_not, comma_not, others_not}
use Rattle.nano_ron_tokens.specs.Token.{parens}
use Rattle.nano_ron_tokens.proofs.RonLaws.{paren_brackets}
use Rattle.nano_ron.specs.ContainerCodecs.{two_parts}
use Rattle.nano_ron.proofs.Ron.{ron_laws}
use Rattle.nano_ron.proofs.tuples.read_three.Goals as goal

pub returns : goal.returns
returns g c =
    parts_read ron_laws parens paren_brackets g.A.RonCodec.ron.encoding (two_parts g.B.RonCodec.ron g.C.RonCodec.ron).encoding c.in_ok-first.ensures c.in_ok-eat_comma_paren.ensures
    c.in_ok-rest.ensures

pub returns-in_err-first : goal.returns-in_err-first
returns-in_err-first g c =
    passed_on _ _ c.from_residual.result c.from_residual.ensures.1
    (first_not ron_laws parens paren_brackets g.A.RonCodec.ron.encoding (two_parts g.B.RonCodec.ron g.C.RonCodec.ron).encoding c.in_err-first.ensures)

pub returns-in_err-eat_comma_paren : goal.returns-in_err-eat_comma_paren
returns-in_err-eat_comma_paren g c =
    passed_on _ _ c.from_residual-in_err-eat_comma_paren.result c.from_residual-in_err-eat_comma_paren.ensures.1
    (comma_not ron_laws parens paren_brackets g.A.RonCodec.ron.encoding (two_parts g.B.RonCodec.ron g.C.RonCodec.ron).encoding c.in_ok-first.ensures c.in_err-eat_comma_paren.ensures.1.fails)

pub returns-in_err-rest : goal.returns-in_err-rest
returns-in_err-rest g c =
    passed_on _ _ c.from_residual-in_err-rest.result c.from_residual-in_err-rest.ensures.1
    (others_not ron_laws parens paren_brackets g.A.RonCodec.ron.encoding (two_parts g.B.RonCodec.ron g.C.RonCodec.ron).encoding c.in_ok-first.ensures c.in_ok-eat_comma_paren.ensures
    c.in_err-rest.ensures)
