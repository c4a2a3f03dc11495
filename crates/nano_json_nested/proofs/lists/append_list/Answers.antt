use Rattle.std.proofs.Common.{false, drop, arith, string_bytes, encode_utf8, refl, subst, OnOk}
use Rattle.std.proofs.lemmas.Result.{on_ok_weaker}
use Rattle.nano_grammar.specs.Items.{no_gaps}
use Rattle.nano_grammar.proofs.WrittenLists.{list_begun, list_ended, write_next, pushed}
use Rattle.nano_json_tokens.specs.Token.{block_punctuation}
use Rattle.std.proofs.lemmas.List.{drop_all}
use Rattle.nano_text.specs.Outcomes.{Appends}
use Rattle.nano_json.specs.Lists.{written_list}
use Rattle.nano_json_nested.proofs.lists.append_list.Goals as goal

pub loop-item-init : goal.loop-item-init
loop-item-init g c = list_begun no_gaps block_punctuation (g.T.JsonCodec.json.canonical.text c.args.d) refl (string_bytes c.args.s.now.out) (string_bytes c.push.new.self) c.deref-item-items.result.now c.deref-item-items.result.now c.in_ok-push.ensures.bytes refl

pub loop-item-preserved : goal.loop-item-preserved
loop-item-preserved g c = write_next false no_gaps block_punctuation (g.T.JsonCodec.json.canonical.text c.args.d) _ _ _ _ _ _ c.item-item.result c.loop-item-test.true c.item-item.is c.loop-item.invariant c.in_ok-append_item.ensures.ok

pub returns-clause-ok : goal.returns-clause-ok
returns-clause-ok g c =
    let items = c.deref-item-items.result.now in
    subst (λ xs. OnOk c.push-2.result (Appends c.args.s.now.out c.push-2.new.self (written_list (g.T.JsonCodec.json.canonical.text c.args.d) xs))) c.deref-item-items.ensures.value
    (on_ok_weaker c.push-2.result (λ closed. list_ended no_gaps block_punctuation (g.T.JsonCodec.json.canonical.text c.args.d) refl (string_bytes c.args.s.now.out) (string_bytes c.loop-item.s.out) (string_bytes c.push-2.new.self) c.loop-item.first (drop c.loop-item.item-index items) items c.loop-item.invariant (drop_all c.loop-item.item-index items (omega arith)) closed) (pushed c.push-2.result (string_bytes c.loop-item.s.out) (string_bytes c.push-2.new.self) (encode_utf8 93) c.push-2.ensures.bytes))
