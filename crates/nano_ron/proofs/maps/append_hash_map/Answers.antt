use Rattle.std.proofs.Common.{true, drop, arith, ap, ◌∙◌, ◌++◌, string_bytes, encode_utf8}
use Rattle.std.proofs.Common.{encode_utf8_all, refl}
use Rattle.std.proofs.lemmas.List.{drop_all}
use Rattle.std.proofs.lemmas.Result.{on_ok_weaker}
use Rattle.std.specs.Map.Iter.{deref_pair}
use Rattle.nano_text.specs.Place.{saturating_next}
use Rattle.nano_grammar.proofs.WrittenLists.{write_start, write_end, mapped_laid_out, pushed}
use Rattle.nano_grammar.proofs.WrittenLists.{write_next_line}
use Rattle.nano_ron_tokens.specs.Token.{curly_punctuation}
use Rattle.nano_ron_tokens.specs.Written.{lines}
use Rattle.nano_ron.specs.Lists.{written_entry}
use Rattle.nano_ron.proofs.Canonical.{curly_opened, closed_written}
use Rattle.nano_ron.proofs.maps.append_hash_map.Goals as goal

pub loop-key-init : goal.loop-key-init
loop-key-init g c =
    let d = saturating_next c.args.d in
    let W = written_entry (g.K.RonCodec.ron.canonical.text d) (g.V.RonCodec.ron.canonical.text d) in
    write_start true (lines c.args.d) curly_punctuation (λ e. W (deref_pair e)) (string_bytes c.args.s.now.out) (string_bytes c.push_str.new.self) c.args.entries.now c.args.entries.now (curly_opened (string_bytes c.args.s.now.out) (string_bytes c.push_str.new.self) c.in_ok-push_str.ensures.bytes) refl

pub loop-key-preserved : goal.loop-key-preserved
loop-key-preserved g c =
    let d = saturating_next c.args.d in
    let W = written_entry (g.K.RonCodec.ron.canonical.text d) (g.V.RonCodec.ron.canonical.text d) in
    write_next_line (lines c.args.d) curly_punctuation (λ e. W (deref_pair e)) _ _ _ _ _ c.loop-key-item.result c.loop-key-test.true c.loop-key-item.is c.loop-key.invariant c.in_ok-append_entry.ensures.ok

pub returns-clause-ok : goal.returns-clause-ok
returns-clause-ok g c =
    let d = saturating_next c.args.d in
    let W = written_entry (g.K.RonCodec.ron.canonical.text d) (g.V.RonCodec.ron.canonical.text d) in
    let entries = c.args.entries.now in
    let before = string_bytes c.args.s.now.out in
    let now = string_bytes c.loop-key.s.out in
    let more = string_bytes c.indent.new.self.out in
    let after = string_bytes c.push.new.self in
    let same = ap (λ l. before ++ encode_utf8_all l) (mapped_laid_out true (lines c.args.d) curly_punctuation W deref_pair entries) in
    on_ok_weaker c.push.result (λ last. write_end true (lines c.args.d) curly_punctuation (λ e. W (deref_pair e)) before now after true (drop c.loop-key.key-index entries) entries c.loop-key.invariant (drop_all c.loop-key.key-index entries (omega arith)) (closed_written now more after c.args.d 125 c.in_ok-indent.ensures.ok last) ∙ same) (pushed c.push.result more after (encode_utf8 125) c.push.ensures.bytes)
