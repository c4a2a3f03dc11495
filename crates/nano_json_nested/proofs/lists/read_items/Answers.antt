use Rattle.std.proofs.Common.{sym, rules, ap, map}
use Rattle.nano_value.specs.Meaning.{listed}
use Rattle.nano_meaning.proofs.LastValuesLaws.{one_more_listed}
use Rattle.nano_grammar.proofs.CollectingCalls.{turn_shorter, filled_none, filled_next}
use Rattle.nano_grammar.proofs.CollectingCalls.{filled_no_more, all_read, opening_not, item_not}
use Rattle.nano_grammar.proofs.CollectingCalls.{comma_not, closing_not}
use Rattle.nano_grammar.proofs.TokenCalls.{passed_on}
use Rattle.nano_json_tokens.specs.Token.{blocks}
use Rattle.nano_json_tokens.proofs.JsonLaws.{block_brackets}
use Rattle.nano_json_tokens.specs.State.{pending}
use Rattle.nano_json.proofs.Json.{json_laws, few_left, close_is, not_close}
use Rattle.nano_json_nested.proofs.ListReaders.{HoldItems}
use Rattle.nano_json_nested.proofs.lists.read_items.Goals as goal

pub items-init : goal.items-init
items-init g c =
    let s = (g.T.NestedJson.at c.args.left).encoding in
    filled_none json_laws blocks block_brackets s.laws (HoldItems g.T.NestedJson.means) c.new-items.result (ap (map g.T.NestedJson.means) c.new-items.ensures.items) c.in_ok-block_open.ensures

pub items-smaller : goal.items-smaller
items-smaller g c =
    let s = (g.T.NestedJson.at c.args.left).encoding in
    turn_shorter json_laws blocks block_brackets s.laws c.in_ok-item.ensures c.in_ok-eat_comma_block.ensures

pub items-preserved : goal.items-preserved
items-preserved g c =
    let s = (g.T.NestedJson.at c.args.left).encoding in
    filled_next json_laws blocks block_brackets s.laws (HoldItems g.T.NestedJson.means) c.push.new.self c.items.invariant c.in_ok-item.ensures c.in_ok-eat_comma_block.ensures
    (λ ms held. one_more_listed g.T.NestedJson.means c.items.items.items c.push.new.self.items ms c.in_ok-item.item held c.in-Ok.ensures.items)

pub returns : goal.returns
returns g c =
    let s = (g.T.NestedJson.at c.args.left).encoding in
    let few = few_left c.args.state.now c.args.input.now (search (rules, c.bytes_left-capacity.ensures.value, c.bytes_left-capacity.ensures.small)) in
    all_read json_laws blocks block_brackets s.laws (HoldItems g.T.NestedJson.means) listed (λ xs. listed (map g.T.NestedJson.means xs.items)) (λ xs ms held. ap listed held) few c.items.invariant
    c.in_ok-block_close.ensures

pub returns-in_default : goal.returns-in_default
returns-in_default g c =
    let s = (g.T.NestedJson.at c.args.left).encoding in
    filled_no_more json_laws blocks block_brackets s.laws (HoldItems g.T.NestedJson.means) c.items.invariant c.in_ok-item.ensures c.err_memory.ensures.memory c.err_memory.ensures.made

pub returns-in_err-block_open : goal.returns-in_err-block_open
returns-in_err-block_open g c =
    let s = (g.T.NestedJson.at c.args.left).encoding in
    passed_on _ _ c.from_residual.result c.from_residual.ensures.1
    (opening_not json_laws blocks block_brackets s.laws (HoldItems g.T.NestedJson.means) listed c.in_err-block_open.ensures.fails)

pub returns-in_err-item : goal.returns-in_err-item
returns-in_err-item g c =
    let s = (g.T.NestedJson.at c.args.left).encoding in
    let other = not_close (pending c.items.state) (sym c.items-test.ensures) in
    passed_on _ _ c.from_residual-in_err-item.result c.from_residual-in_err-item.ensures.1
    (item_not json_laws blocks block_brackets s.laws (HoldItems g.T.NestedJson.means) listed c.items.invariant other c.in_err-item.ensures.fails)

pub returns-in_err-eat_comma_block : goal.returns-in_err-eat_comma_block
returns-in_err-eat_comma_block g c =
    let s = (g.T.NestedJson.at c.args.left).encoding in
    passed_on _ _ c.from_residual-in_err-eat_comma_block.result c.from_residual-in_err-eat_comma_block.ensures.1
    (comma_not json_laws blocks block_brackets s.laws (HoldItems g.T.NestedJson.means) listed c.items.invariant c.in_ok-item.ensures c.in_err-eat_comma_block.ensures.1.fails)

pub returns-in_err-block_close : goal.returns-in_err-block_close
returns-in_err-block_close g c =
    let s = (g.T.NestedJson.at c.args.left).encoding in
    let closing = close_is (pending c.items.state) (sym c.items-test.ensures) in
    passed_on _ _ c.from_residual-in_err-block_close.result c.from_residual-in_err-block_close.ensures.1
    (closing_not json_laws blocks block_brackets s.laws (HoldItems g.T.NestedJson.means) listed c.items.invariant closing c.in_err-block_close.ensures.fails)
