use Rattle.std.proofs.Common.{◌≡◌, ◌<◌, List, [], ◌∷◌, ◌++◌, map, length, refl, sym, ◌∙◌, ap, subst}
use Rattle.std.proofs.Common.{arith}
use Rattle.std.proofs.lemmas.Grind.{common_steps}
use Rattle.std.proofs.lemmas.List.{map-append, length-map, length-append}
use Rattle.nano_value.specs.Meaning.{Meaning, listed}
use Rattle.nano_grammar.proofs.CollectingCalls.{filled_none, filled_next, filled_no_more}
use Rattle.nano_grammar.proofs.CollectingCalls.{array_read, array_opening_not, array_item_not}
use Rattle.nano_grammar.proofs.CollectingCalls.{array_comma_not, array_closing_not}
use Rattle.nano_grammar.proofs.TokenCalls.{passed_on}
use Rattle.nano_json_tokens.specs.Token.{blocks}
use Rattle.nano_json_tokens.proofs.JsonLaws.{block_brackets}
use Rattle.nano_json.proofs.Json.{json_laws}
use Rattle.nano_json.proofs.lists.read_items.Invariants.{mean}
use Rattle.nano_json.proofs.lists.read_items.Goals as goal

pub loop-index-init : goal.loop-index-init
loop-index-init g c = record {
  filled = rw c.new-items.ensures.items (filled_none json_laws blocks block_brackets g.T.JsonCodec.json.encoding.laws mean [] refl c.in_ok-block_open.ensures);
  count = ap length c.new-items.ensures.items;
}

pub loop-index-preserved : goal.loop-index-preserved
loop-index-preserved g c =
    let means = g.T.Value.means in
    let here = c.loop-index.items.items in
    let item = c.in_ok-item.item in
    let long = length-append here (item ∷ []) in
    let count = c.loop-index.invariant.count in
    rw (c.push.ensures.items, c.if-is_err.ensures.negation) (record {
      filled = filled_next json_laws blocks block_brackets g.T.JsonCodec.json.encoding.laws mean (map means (here ++ item ∷ [])) c.loop-index.invariant.filled c.in_ok-item.ensures c.in_ok-eat_comma_block.ensures
          (λ ms is. map-append means here (item ∷ []) ∙ ap (λ (l : List Meaning). l ++ means item ∷ []) is);
      count = omega (arith, long, count);
    })

pub returns-clause-reads : goal.returns-clause-reads
returns-clause-reads g c =
    let full : length c.loop-index.items.items ≡ c.args.count = grind (arith, common_steps) in
    array_read json_laws blocks block_brackets g.T.JsonCodec.json.encoding.laws mean listed c.args.count listed
    (λ ms is. (ap listed is, sym (ap length is) ∙ (length-map c.loop-index.items.items g.T.Value.means ∙ full)))
    c.loop-index.invariant.filled c.in_ok-block_close.ensures

pub returns-then-is_err-clause-reads : goal.returns-then-is_err-clause-reads
returns-then-is_err-clause-reads g c =
    filled_no_more json_laws blocks block_brackets g.T.JsonCodec.json.encoding.laws mean c.loop-index.invariant.filled c.in_ok-item.ensures c.err_memory.ensures.memory c.err_memory.ensures.made

pub returns-in_err-block_open-clause-reads : goal.returns-in_err-block_open-clause-reads
returns-in_err-block_open-clause-reads g c =
    passed_on _ _ c.from_residual.result c.from_residual.ensures.1
    (array_opening_not json_laws blocks block_brackets g.T.JsonCodec.json.encoding.laws mean listed c.args.count c.in_err-block_open.ensures.fails)

pub returns-in_err-item-clause-reads : goal.returns-in_err-item-clause-reads
returns-in_err-item-clause-reads g c =
    let long = length-map c.loop-index.items.items g.T.Value.means in
    let count = c.loop-index.invariant.count in
    let less = c.loop-index-test.true in
    let few : length (map g.T.Value.means c.loop-index.items.items) < c.args.count = omega (arith, long, count, less) in
    passed_on _ _ c.from_residual-in_err-item.result c.from_residual-in_err-item.ensures.1
    (array_item_not json_laws blocks block_brackets g.T.JsonCodec.json.encoding.laws mean listed c.args.count c.loop-index.invariant.filled
    (λ ms is. subst (λ (l : List Meaning). length l < c.args.count) is few) c.in_err-item.ensures.fails)

pub returns-in_err-eat_comma_block-clause-reads : goal.returns-in_err-eat_comma_block-clause-reads
returns-in_err-eat_comma_block-clause-reads g c =
    passed_on _ _ c.from_residual-in_err-eat_comma_block.result c.from_residual-in_err-eat_comma_block.ensures.1
    (array_comma_not json_laws blocks block_brackets g.T.JsonCodec.json.encoding.laws mean listed c.args.count c.loop-index.invariant.filled c.in_ok-item.ensures
    c.in_err-eat_comma_block.ensures.1.fails)

pub returns-in_err-block_close-clause-reads : goal.returns-in_err-block_close-clause-reads
returns-in_err-block_close-clause-reads g c =
    let full : length c.loop-index.items.items ≡ c.args.count = grind (arith, common_steps) in
    passed_on _ _ c.from_residual-in_err-block_close.result c.from_residual-in_err-block_close.ensures.1
    (array_closing_not json_laws blocks block_brackets g.T.JsonCodec.json.encoding.laws mean listed c.args.count c.loop-index.invariant.filled
    (λ ms is. sym (ap length is) ∙ (length-map c.loop-index.items.items g.T.Value.means ∙ full)) c.in_err-block_close.ensures.fails)
