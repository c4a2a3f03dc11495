use Rattle.std.proofs.Common.{true, drop, arith, string_bytes, encode_utf8, refl, subst, OnOk}
use Rattle.std.proofs.lemmas.Result.{on_ok_weaker}
use Rattle.std.proofs.lemmas.List.{drop_all}
use Rattle.nano_text.specs.Place.{saturating_next}
use Rattle.nano_grammar.proofs.WrittenLists.{write_start, write_end, pushed, write_next_line}
use Rattle.nano_ron_tokens.specs.Token.{block_punctuation}
use Rattle.nano_ron_tokens.specs.Written.{lines}
use Rattle.nano_text.specs.Outcomes.{Appends}
use Rattle.nano_ron.specs.Lists.{written_in}
use Rattle.nano_ron_tokens.proofs.StylesLaws.{line_style}
use Rattle.nano_ron.proofs.Canonical.{block_opened, closed_written}
use Rattle.nano_ron_nested.proofs.lists.append_list.Goals as goal

pub loop-item-init : goal.loop-item-init
loop-item-init g c = write_start true (lines c.args.d) block_punctuation (g.T.RonCodec.ron.canonical.text (saturating_next c.args.d)) (string_bytes c.args.s.now.out) (string_bytes c.push_str.new.self) c.deref-item-items.result.now c.deref-item-items.result.now (block_opened (string_bytes c.args.s.now.out) (string_bytes c.push_str.new.self) c.in_ok-push_str.ensures.bytes) refl

pub loop-item-preserved : goal.loop-item-preserved
loop-item-preserved g c = write_next_line (lines c.args.d) block_punctuation (g.T.RonCodec.ron.canonical.text (saturating_next c.args.d)) _ _ _ _ _ c.item-item.result c.loop-item-test.true c.item-item.is c.loop-item.invariant c.in_ok-append_line.ensures.ok

pub returns-clause-ok : goal.returns-clause-ok
returns-clause-ok g c =
    let items = c.deref-item-items.result.now in
    let before = string_bytes c.args.s.now.out in
    let now = string_bytes c.loop-item.s.out in
    let more = string_bytes c.indent.new.self.out in
    let after = string_bytes c.push.new.self in
    subst (λ xs. OnOk c.push.result (Appends c.args.s.now.out c.push.new.self (written_in line_style c.args.d (g.T.RonCodec.ron.canonical.text (saturating_next c.args.d)) xs))) c.deref-item-items.ensures.value
    (on_ok_weaker c.push.result (λ last. write_end true (lines c.args.d) block_punctuation (g.T.RonCodec.ron.canonical.text (saturating_next c.args.d)) before now after true (drop c.loop-item.item-index items) items c.loop-item.invariant (drop_all c.loop-item.item-index items (omega arith)) (closed_written now more after c.args.d 93 c.in_ok-indent.ensures.ok last)) (pushed c.push.result more after (encode_utf8 93) c.push.ensures.bytes))
