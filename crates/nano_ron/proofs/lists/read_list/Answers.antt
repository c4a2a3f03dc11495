use Rattle.std.proofs.Common.{sym, rules}
use Rattle.nano_grammar.proofs.CollectingCalls.{filled_none}
use Rattle.nano_grammar.proofs.CollectingCalls.{filled_no_more, all_read, opening_not, item_not}
use Rattle.nano_grammar.proofs.CollectingCalls.{closing_not}
use Rattle.nano_text.proofs.PlaceLaws.{moves_append}
use Rattle.nano_grammar.proofs.ItemRuns.{run_shorter, filled_run, run_comma_not}
use Rattle.nano_grammar.proofs.TokenCalls.{passed_on, fails_for_memory}
use Rattle.nano_ron_tokens.specs.Token.{blocks}
use Rattle.nano_ron_tokens.proofs.RonLaws.{block_brackets}
use Rattle.nano_ron_tokens.specs.State.{pending}
use Rattle.nano_ron.proofs.Ron.{ron_laws, few_left, close_is, not_close}
use Rattle.nano_ron.proofs.lists.read_list.Goals as goal

pub items-init : goal.items-init
items-init g c =
    filled_none ron_laws blocks block_brackets g.T.RonCodec.ron.encoding.laws g.C.Collect.holds c.empty-items.result c.empty-items.ensures c.in_ok-block_open.ensures

pub items-smaller : goal.items-smaller
items-smaller g c = run_shorter ron_laws blocks block_brackets g.T.RonCodec.ron.encoding.laws g.C.Collect.holds c.in_ok-item.ensures c.in-Ok-put_plain_items.ensures.ok c.in_ok-eat_comma_block.ensures

pub items-preserved : goal.items-preserved
items-preserved g c =
    filled_run ron_laws blocks block_brackets g.T.RonCodec.ron.encoding.laws g.C.Collect.holds c.items.invariant c.in_ok-item.ensures c.in-Ok.ensures c.in-Ok-put_plain_items.ensures.ok c.in_ok-eat_comma_block.ensures

pub returns : goal.returns
returns g c =
    let few = few_left c.args.state.now c.args.input.now (search (rules, c.bytes_left-capacity.ensures.value, c.bytes_left-capacity.ensures.small)) in
    all_read ron_laws blocks block_brackets g.T.RonCodec.ron.encoding.laws g.C.Collect.holds g.C.Collect.whole g.C.Value.means g.met.C.Collect.is_whole few c.items.invariant
    c.in_ok-block_close.ensures

pub returns-in_default : goal.returns-in_default
returns-in_default g c =
    filled_no_more ron_laws blocks block_brackets g.T.RonCodec.ron.encoding.laws g.C.Collect.holds c.items.invariant c.in_ok-item.ensures c.err_memory.ensures.memory c.err_memory.ensures.made

pub returns-in_default-put_plain_items : goal.returns-in_default-put_plain_items
returns-in_default-put_plain_items g c =
    fails_for_memory (moves_append c.items.invariant.place (moves_append c.in_ok-item.ensures.place c.in_default-put_plain_items.ensures.err))
    c.err_memory-in_default-put_plain_items.ensures.memory c.err_memory-in_default-put_plain_items.ensures.made

pub returns-in_err-block_open : goal.returns-in_err-block_open
returns-in_err-block_open g c =
    passed_on _ _ c.from_residual.result c.from_residual.ensures.1
    (opening_not ron_laws blocks block_brackets g.T.RonCodec.ron.encoding.laws g.C.Collect.holds g.C.Collect.whole c.in_err-block_open.ensures.fails)

pub returns-in_err-item : goal.returns-in_err-item
returns-in_err-item g c =
    let other = not_close (pending c.items.state) (sym c.items-test.ensures) in
    passed_on _ _ c.from_residual-in_err-item.result c.from_residual-in_err-item.ensures.1
    (item_not ron_laws blocks block_brackets g.T.RonCodec.ron.encoding.laws g.C.Collect.holds g.C.Collect.whole c.items.invariant other c.in_err-item.ensures.fails)

pub returns-in_err-eat_comma_block : goal.returns-in_err-eat_comma_block
returns-in_err-eat_comma_block g c =
    passed_on _ _ c.from_residual-in_err-eat_comma_block.result c.from_residual-in_err-eat_comma_block.ensures.1
    (run_comma_not ron_laws blocks block_brackets g.T.RonCodec.ron.encoding.laws g.C.Collect.holds g.C.Collect.whole c.items.invariant c.in_ok-item.ensures c.in-Ok-put_plain_items.ensures.ok c.in_err-eat_comma_block.ensures.1.fails)

pub returns-in_err-block_close : goal.returns-in_err-block_close
returns-in_err-block_close g c =
    let closing = close_is (pending c.items.state) (sym c.items-test.ensures) in
    passed_on _ _ c.from_residual-in_err-block_close.result c.from_residual-in_err-block_close.ensures.1
    (closing_not ron_laws blocks block_brackets g.T.RonCodec.ron.encoding.laws g.C.Collect.holds g.C.Collect.whole c.items.invariant closing c.in_err-block_close.ensures.fails)
