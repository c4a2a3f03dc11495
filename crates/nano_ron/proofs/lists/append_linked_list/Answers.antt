use Rattle.std.proofs.Common.{◌≡◌, rules, false, string_bytes, encode_utf8, refl}
use Rattle.std.proofs.lemmas.Result.{on_ok_weaker}
use Rattle.nano_text.specs.Place.{saturating_next}
use Rattle.nano_grammar.proofs.WrittenLists.{write_start, write_step, pushed, one_written}
use Rattle.nano_grammar.proofs.WrittenLists.{list_ended}
use Rattle.nano_ron_tokens.specs.Token.{block_punctuation}
use Rattle.nano_ron_tokens.specs.Written.{indents}
use Rattle.nano_ron.proofs.lists.append_linked_list.Goals as goal

pub loop-item-init : goal.loop-item-init
loop-item-init g c =
    let same : c.into_iter-item-iterator.result ≡ c.args.items.now = search rules in
    write_start false (indents c.args.d) block_punctuation (g.T.RonCodec.ron.canonical.text (saturating_next c.args.d)) (string_bytes c.args.s.now.out) (string_bytes c.push.new.self) _ c.args.items.now (one_written (string_bytes c.args.s.now.out) (string_bytes c.push.new.self) 91 c.in_ok-push.ensures.bytes) same

pub loop-item-preserved : goal.loop-item-preserved
loop-item-preserved g c = write_step false (indents c.args.d) block_punctuation (g.T.RonCodec.ron.canonical.text (saturating_next c.args.d)) _ _ _ _ _ _ _ c.in-Some.item.now c.loop-item.invariant c.in-Some.ensures.steps c.in_ok-append_indented.ensures.ok

pub returns-clause-ok : goal.returns-clause-ok
returns-clause-ok g c =
    let before = string_bytes c.args.s.now.out in
    let now = string_bytes c.loop-item.s.out in
    let after = string_bytes c.push-2.new.self in
    on_ok_weaker c.push-2.result (λ last. list_ended (indents c.args.d) block_punctuation (g.T.RonCodec.ron.canonical.text (saturating_next c.args.d)) refl before now after c.loop-item.first c.loop-item.item-iterator c.args.items.now c.loop-item.invariant c.in-None.ensures.steps.0 last) (pushed c.push-2.result now after (encode_utf8 93) c.push-2.ensures.bytes)
