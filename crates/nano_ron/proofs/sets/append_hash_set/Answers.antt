use Rattle.std.proofs.Common.{false, drop, arith, ap, ◌∙◌, ◌++◌, string_bytes, encode_utf8}
use Rattle.std.proofs.Common.{encode_utf8_all, refl}
use Rattle.std.proofs.lemmas.List.{drop_all}
use Rattle.std.proofs.lemmas.Result.{on_ok_weaker}
use Rattle.std.specs.Map.Iter.{deref}
use Rattle.nano_text.specs.Place.{saturating_next}
use Rattle.nano_grammar.proofs.WrittenLists.{write_start, write_next, mapped_laid_out, pushed}
use Rattle.nano_grammar.proofs.WrittenLists.{one_written, list_ended}
use Rattle.nano_ron_tokens.specs.Token.{block_punctuation}
use Rattle.nano_ron_tokens.specs.Written.{indents}
use Rattle.nano_ron.proofs.sets.append_hash_set.Goals as goal

pub loop-item-init : goal.loop-item-init
loop-item-init g c = write_start false (indents c.args.d) block_punctuation (λ x. g.T.RonCodec.ron.canonical.text (saturating_next c.args.d) x.now) (string_bytes c.args.s.now.out) (string_bytes c.push.new.self) c.args.items.now c.args.items.now (one_written (string_bytes c.args.s.now.out) (string_bytes c.push.new.self) 91 c.in_ok-push.ensures.bytes) refl

pub loop-item-preserved : goal.loop-item-preserved
loop-item-preserved g c = write_next false (indents c.args.d) block_punctuation (λ x. g.T.RonCodec.ron.canonical.text (saturating_next c.args.d) x.now) _ _ _ _ _ _ c.item-item.result c.loop-item-test.true c.item-item.is c.loop-item.invariant c.in_ok-append_indented.ensures.ok

pub returns-clause-ok : goal.returns-clause-ok
returns-clause-ok g c =
    let items = c.args.items.now in
    let before = string_bytes c.args.s.now.out in
    let now = string_bytes c.loop-item.s.out in
    let after = string_bytes c.push-2.new.self in
    let same = ap (λ l. before ++ encode_utf8_all l) (mapped_laid_out false (indents c.args.d) block_punctuation (g.T.RonCodec.ron.canonical.text (saturating_next c.args.d)) deref items) in
    on_ok_weaker c.push-2.result (λ last. list_ended (indents c.args.d) block_punctuation (λ x. g.T.RonCodec.ron.canonical.text (saturating_next c.args.d) x.now) refl before now after c.loop-item.first (drop c.loop-item.item-index items) items c.loop-item.invariant (drop_all c.loop-item.item-index items (omega arith)) last ∙ same) (pushed c.push-2.result now after (encode_utf8 93) c.push-2.ensures.bytes)
