use Rattle.std.proofs.Common.{sym}
use Rattle.nano_grammar.proofs.TokenCalls.{passed_on}
use Rattle.nano_grammar.proofs.TupleCalls.{parts_read, first_not, comma_not, others_not}
use Rattle.nano_ron_tokens.specs.Token.{parens}
use Rattle.nano_ron_tokens.proofs.RonLaws.{paren_brackets}
use Rattle.nano_ron.proofs.Ron.{ron_laws}
use Rattle.nano_ron_schema.proofs.wide.Tuple2NewtypeRonPartsRead.read.Goals as goal

pub returns : goal.returns
returns g c =
    let first = rw (sym g.met.T.RonCodec.agrees.means_is) at c.in_ok-first.ensures in
    parts_read ron_laws parens paren_brackets g.T.RonCodec.ron.encoding g.R.RonPartsRead.codec.encoding first c.in_ok-eat_comma_paren.ensures
    c.in_ok-others.ensures

pub returns-in_err-first : goal.returns-in_err-first
returns-in_err-first g c =
    passed_on _ _ c.from_residual.result c.from_residual.ensures.1
    (first_not ron_laws parens paren_brackets g.T.RonCodec.ron.encoding g.R.RonPartsRead.codec.encoding c.in_err-first.ensures)

pub returns-in_err-eat_comma_paren : goal.returns-in_err-eat_comma_paren
returns-in_err-eat_comma_paren g c =
    let first = rw (sym g.met.T.RonCodec.agrees.means_is) at c.in_ok-first.ensures in
    passed_on _ _ c.from_residual-in_err-eat_comma_paren.result c.from_residual-in_err-eat_comma_paren.ensures.1
    (comma_not ron_laws parens paren_brackets g.T.RonCodec.ron.encoding g.R.RonPartsRead.codec.encoding first c.in_err-eat_comma_paren.ensures.1.fails)

pub returns-in_err-others : goal.returns-in_err-others
returns-in_err-others g c =
    let first = rw (sym g.met.T.RonCodec.agrees.means_is) at c.in_ok-first.ensures in
    passed_on _ _ c.from_residual-in_err-others.result c.from_residual-in_err-others.ensures.1
    (others_not ron_laws parens paren_brackets g.T.RonCodec.ron.encoding g.R.RonPartsRead.codec.encoding first c.in_ok-eat_comma_paren.ensures
    c.in_err-others.ensures)
