use Rattle.std.proofs.lemmas.Result.{MatchResult-weaker}
use Rattle.nano_grammar.proofs.TokenCalls.{passed_on}
use Rattle.nano_grammar.proofs.TupleCalls.{tuple_read, open_not, parts_not}
use Rattle.nano_ron_tokens.specs.Token.{parens}
use Rattle.nano_ron_tokens.proofs.RonLaws.{paren_brackets}
use Rattle.nano_ron.proofs.Ron.{ron_laws}
use Rattle.nano_ron_schema.proofs.wide.read_row.Goals as goal

pub returns : goal.returns
returns g c =
    let s = g.P.RonPartsRead.codec.encoding in
    MatchResult-weaker c.read.result c.read.ensures (λ _ x. tuple_read ron_laws parens paren_brackets s c.in_ok-paren_open.ensures x)
    (λ _ x. parts_not ron_laws parens paren_brackets s c.in_ok-paren_open.ensures x)

pub returns-in_err-paren_open : goal.returns-in_err-paren_open
returns-in_err-paren_open g c =
    passed_on _ _ c.from_residual.result c.from_residual.ensures.1
    (open_not ron_laws parens paren_brackets g.P.RonPartsRead.codec.encoding c.in_err-paren_open.ensures.fails)
