use Rattle.std.proofs.Common.{◌≡◌, rules, false, string_bytes, encode_utf8, refl}
use Rattle.std.proofs.lemmas.Result.{on_ok_weaker}
use Rattle.nano_grammar.specs.Items.{no_gaps}
use Rattle.nano_grammar.proofs.WrittenLists.{list_begun, list_ended, write_step, pushed}
use Rattle.nano_json_tokens.specs.Token.{block_punctuation}
use Rattle.nano_json.proofs.sets.append_btree_set.Goals as goal

pub loop-item-init : goal.loop-item-init
loop-item-init g c =
    let same : c.into_iter-item-iterator.result ≡ c.args.items.now.keys = search rules in
    list_begun no_gaps block_punctuation (g.T.JsonCodec.json.canonical.text c.args.d) refl (string_bytes c.args.s.now.out) (string_bytes c.push.new.self) _ c.args.items.now.keys c.in_ok-push.ensures.bytes same

pub loop-item-preserved : goal.loop-item-preserved
loop-item-preserved g c = write_step false no_gaps block_punctuation (g.T.JsonCodec.json.canonical.text c.args.d) _ _ _ _ _ _ _ c.in-Some.item.now c.loop-item.invariant c.in-Some.ensures.steps c.in_ok-append_item.ensures.ok

pub returns-clause-ok : goal.returns-clause-ok
returns-clause-ok g c =
    on_ok_weaker c.push-2.result (λ closed. list_ended no_gaps block_punctuation (g.T.JsonCodec.json.canonical.text c.args.d) refl (string_bytes c.args.s.now.out) (string_bytes c.loop-item.s.out) (string_bytes c.push-2.new.self) c.loop-item.first c.loop-item.item-iterator c.args.items.now.keys c.loop-item.invariant c.in-None.ensures.steps.0 closed) (pushed c.push-2.result (string_bytes c.loop-item.s.out) (string_bytes c.push-2.new.self) (encode_utf8 93) c.push-2.ensures.bytes)
