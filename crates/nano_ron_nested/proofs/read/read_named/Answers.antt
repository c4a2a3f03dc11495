use Rattle.std.proofs.Common.{string_bytes}
use Rattle.std.proofs.lemmas.Result.{MatchResult-weaker}
use Rattle.nano_grammar.proofs.TokenCalls.{passed_on}
use Rattle.nano_ron_schema.proofs.FieldCalls.{named_read, colon_not, value_not}
use Rattle.nano_ron_schema.proofs.Calls.{pending_name}
use Rattle.nano_ron_nested.proofs.read.read_named.Goals as goal

pub returns : goal.returns
returns g c =
    let name = string_bytes c.args.state.now.identbuf in
    let encodes = (g.T.NestedRon.at c.args.left).encoding.encodes in
    MatchResult-weaker c.read_ron.result c.read_ron.ensures
    (λ _ x. named_read name encodes (pending_name c.args.state.now c.requires) c.in_ok-next_colon.ensures x)
    (λ _ x. value_not name encodes c.in_ok-next_colon.ensures x.fails)

pub returns-in_err-next_colon : goal.returns-in_err-next_colon
returns-in_err-next_colon g c =
    passed_on _ _ c.from_residual.result c.from_residual.ensures.1
    (colon_not (string_bytes c.args.state.now.identbuf) (g.T.NestedRon.at c.args.left).encoding.encodes c.in_err-next_colon.ensures.fails)
