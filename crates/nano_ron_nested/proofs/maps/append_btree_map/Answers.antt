use Rattle.std.proofs.Common.{true, string_bytes, encode_utf8}
use Rattle.std.proofs.lemmas.Result.{on_ok_weaker}
use Rattle.nano_text.specs.Place.{saturating_next}
use Rattle.nano_grammar.proofs.WrittenLists.{write_start, write_end, pushed, write_line}
use Rattle.nano_ron_tokens.specs.Token.{curly_punctuation}
use Rattle.nano_ron_tokens.specs.Written.{lines}
use Rattle.nano_ron.specs.Lists.{written_entry}
use Rattle.nano_ron.proofs.Canonical.{curly_opened, closed_written}
use Rattle.nano_ron_nested.proofs.maps.append_btree_map.Goals as goal

pub loop-key-init : goal.loop-key-init
loop-key-init g c =
    let d = saturating_next c.args.d in
    let W = written_entry (g.K.RonCodec.ron.canonical.text d) (g.T.RonCodec.ron.canonical.text d) in
    write_start true (lines c.args.d) curly_punctuation W (string_bytes c.args.s.now.out) (string_bytes c.push_str.new.self) _ c.args.entries.now.entries (curly_opened (string_bytes c.args.s.now.out) (string_bytes c.push_str.new.self) c.in_ok-push_str.ensures.bytes) c.into_iter-key-iterator.ensures.into_iter_gives.0

pub loop-key-preserved : goal.loop-key-preserved
loop-key-preserved g c =
    let d = saturating_next c.args.d in
    let W = written_entry (g.K.RonCodec.ron.canonical.text d) (g.T.RonCodec.ron.canonical.text d) in
    write_line (lines c.args.d) curly_punctuation W _ _ _ _ _ _ (c.in-Some.key.now, c.in-Some.value.now) c.loop-key.invariant c.in-Some.ensures.steps c.in_ok-append_entry.ensures.ok

pub returns-clause-ok : goal.returns-clause-ok
returns-clause-ok g c =
    let d = saturating_next c.args.d in
    let W = written_entry (g.K.RonCodec.ron.canonical.text d) (g.T.RonCodec.ron.canonical.text d) in
    let before = string_bytes c.args.s.now.out in
    let now = string_bytes c.loop-key.s.out in
    let more = string_bytes c.indent.new.self.out in
    let after = string_bytes c.push.new.self in
    on_ok_weaker c.push.result (λ last. write_end true (lines c.args.d) curly_punctuation W before now after true c.loop-key.key-iterator c.args.entries.now.entries c.loop-key.invariant c.in-None.ensures.steps.0 (closed_written now more after c.args.d 125 c.in_ok-indent.ensures.ok last)) (pushed c.push.result more after (encode_utf8 125) c.push.ensures.bytes)
