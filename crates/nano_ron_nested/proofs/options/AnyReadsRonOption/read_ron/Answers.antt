use Rattle.std.proofs.Common.{sym, refl}
use Rattle.nano_grammar.proofs.TokenCalls.{passed_on}
use Rattle.nano_grammar.proofs.ReadingCalls.{none_read, none_stopped, some_read, some_not}
use Rattle.nano_ron_tokens.specs.State.{pending}
use Rattle.nano_ron.proofs.Ron.{ron_laws, is_the_none, not_none}
use Rattle.nano_ron_nested.proofs.options.AnyReadsRonOption.read_ron.Goals as goal

pub returns-then-is_none : goal.returns-then-is_none
returns-then-is_none g c =
    none_read ron_laws (g.T.NestedRon.at c.args.left).encoding.encodes (is_the_none (pending c.args.state.now) (sym c.if-is_none.ensures)) c.in_ok-next_tok.ensures

pub returns : goal.returns
returns g c =
    let s = (g.T.NestedRon.at c.args.left).encoding in
    some_read ron_laws s.encodes (g.T.NestedRon.means c.in_ok-value.value) s.laws.begins (not_none (pending c.args.state.now) (sym c.if-is_none.ensures)) c.in_ok-value.ensures

pub returns-in_err-next_tok : goal.returns-in_err-next_tok
returns-in_err-next_tok g c =
    let h = c.in_err-next_tok.ensures in
    passed_on _ _ c.from_residual.result c.from_residual.ensures.1
    (record { fails = none_stopped ron_laws (g.T.NestedRon.at c.args.left).encoding.encodes refl h.fails; ended = h.ended })

pub returns-in_err-value : goal.returns-in_err-value
returns-in_err-value g c =
    let other = not_none (pending c.args.state.now) (sym c.if-is_none.ensures) in
    let h = c.in_err-value.ensures in
    passed_on _ _ c.from_residual-in_err-value.result c.from_residual-in_err-value.ensures.1
    (record { fails = some_not ron_laws (g.T.NestedRon.at c.args.left).encoding.encodes other h.fails; ended = h.ended })
