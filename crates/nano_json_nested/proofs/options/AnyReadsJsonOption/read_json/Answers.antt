use Rattle.std.proofs.Common.{sym, refl}
use Rattle.nano_grammar.proofs.TokenCalls.{passed_on}
use Rattle.nano_grammar.proofs.ReadingCalls.{none_read, none_stopped, some_read, some_not}
use Rattle.nano_json_tokens.specs.State.{pending}
use Rattle.nano_json.proofs.Json.{json_laws, is_the_null, not_null}
use Rattle.nano_json_nested.proofs.options.AnyReadsJsonOption.read_json.Goals as goal

pub returns-then-is_null : goal.returns-then-is_null
returns-then-is_null g c =
    none_read json_laws (g.T.NestedJson.at c.args.left).encoding.encodes (is_the_null (pending c.args.state.now) (sym c.if-is_null.ensures)) c.in_ok-next_tok.ensures

pub returns : goal.returns
returns g c =
    let s = (g.T.NestedJson.at c.args.left).encoding in
    some_read json_laws s.encodes (g.T.NestedJson.means c.in_ok-value.value) s.laws.begins (not_null (pending c.args.state.now) (sym c.if-is_null.ensures)) c.in_ok-value.ensures

pub returns-in_err-next_tok : goal.returns-in_err-next_tok
returns-in_err-next_tok g c =
    let h = c.in_err-next_tok.ensures in
    passed_on _ _ c.from_residual.result c.from_residual.ensures.1
    (record { fails = none_stopped json_laws (g.T.NestedJson.at c.args.left).encoding.encodes refl h.fails; ended = h.ended })

pub returns-in_err-value : goal.returns-in_err-value
returns-in_err-value g c =
    let other = not_null (pending c.args.state.now) (sym c.if-is_null.ensures) in
    let h = c.in_err-value.ensures in
    passed_on _ _ c.from_residual-in_err-value.result c.from_residual-in_err-value.ensures.1
    (record { fails = some_not json_laws (g.T.NestedJson.at c.args.left).encoding.encodes other h.fails; ended = h.ended })
