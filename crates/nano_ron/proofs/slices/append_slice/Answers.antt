use Rattle.std.proofs.Common.{ℕ, false, drop, arith, ap, ◌∙◌, ◌++◌, string_bytes, encode_utf8}
use Rattle.std.proofs.Common.{encode_utf8_all, refl}
use Rattle.std.proofs.lemmas.Result.{on_ok_weaker}
use Rattle.std.proofs.lemmas.List.{drop_all}
use Rattle.nano_text.specs.Place.{saturating_next}
use Rattle.nano_grammar.specs.Items.{item_in_list}
use Rattle.nano_grammar.proofs.WrittenLists.{write_start, write_next, pushed, one_written}
use Rattle.nano_grammar.proofs.WrittenLists.{list_ended}
use Rattle.nano_ron_tokens.specs.Token.{paren_punctuation}
use Rattle.nano_ron_tokens.specs.Written.{spaces}
use Rattle.nano_ron.proofs.slices.append_slice.Goals as goal

pub loop-item-init : goal.loop-item-init
loop-item-init g c = write_start false spaces paren_punctuation (g.T.RonCodec.ron.canonical.text (saturating_next c.args.d)) (string_bytes c.args.s.now.out) (string_bytes c.push.new.self) c.args.items.now c.args.items.now (one_written (string_bytes c.args.s.now.out) (string_bytes c.push.new.self) 40 c.in_ok-push.ensures.bytes) refl

pub loop-item-preserved : goal.loop-item-preserved
loop-item-preserved g c =
    let item = c.item-item.result in
    let now = string_bytes c.loop-item.s.out in
    let level = λ (n : ℕ). now ++ encode_utf8_all (item_in_list spaces paren_punctuation c.loop-item.first (g.T.RonCodec.ron.canonical.text n item)) in
    write_next false spaces paren_punctuation (g.T.RonCodec.ron.canonical.text (saturating_next c.args.d)) _ _ _ _ _ _ item c.loop-item-test.true c.item-item.is c.loop-item.invariant (c.in_ok-append_spaced.ensures.ok ∙ ap level c.saturating_add-inner.ensures)

pub returns-clause-ok : goal.returns-clause-ok
returns-clause-ok g c =
    let items = c.args.items.now in
    let before = string_bytes c.args.s.now.out in
    let now = string_bytes c.loop-item.s.out in
    let after = string_bytes c.push-2.new.self in
    on_ok_weaker c.push-2.result (λ last. list_ended spaces paren_punctuation (g.T.RonCodec.ron.canonical.text (saturating_next c.args.d)) refl before now after c.loop-item.first (drop c.loop-item.item-index items) items c.loop-item.invariant (drop_all c.loop-item.item-index items (omega arith)) last) (pushed c.push-2.result now after (encode_utf8 41) c.push-2.ensures.bytes)
