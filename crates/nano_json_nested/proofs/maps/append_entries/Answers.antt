use Rattle.std.proofs.Common.{false, string_bytes, encode_utf8, refl}
use Rattle.std.proofs.lemmas.Result.{on_ok_weaker}
use Rattle.nano_grammar.specs.Items.{no_gaps}
use Rattle.nano_grammar.proofs.WrittenLists.{list_begun, list_ended, write_step, pushed}
use Rattle.nano_json_tokens.specs.Token.{curly_punctuation}
use Rattle.nano_json.specs.Lists.{written_entry}
use Rattle.nano_json_nested.proofs.maps.append_entries.Goals as goal

pub loop-key-init : goal.loop-key-init
loop-key-init g c =
    let W = written_entry (g.K.JsonCodec.json.canonical.text c.args.d) (g.T.JsonCodec.json.canonical.text c.args.d) in
    list_begun no_gaps curly_punctuation W refl (string_bytes c.args.s.now.out) (string_bytes c.push.new.self) _ c.args.entries.now.entries c.in_ok-push.ensures.bytes c.into_iter-key-iterator.ensures.into_iter_gives.0

pub loop-key-preserved : goal.loop-key-preserved
loop-key-preserved g c =
    let W = written_entry (g.K.JsonCodec.json.canonical.text c.args.d) (g.T.JsonCodec.json.canonical.text c.args.d) in
    write_step false no_gaps curly_punctuation W _ _ _ _ _ _ _ (c.in-Some.key.now, c.in-Some.value.now) c.loop-key.invariant c.in-Some.ensures.steps c.in_ok-append_entry.ensures.ok

pub returns-clause-ok : goal.returns-clause-ok
returns-clause-ok g c =
    let W = written_entry (g.K.JsonCodec.json.canonical.text c.args.d) (g.T.JsonCodec.json.canonical.text c.args.d) in
    on_ok_weaker c.push-2.result (λ closed. list_ended no_gaps curly_punctuation W refl (string_bytes c.args.s.now.out) (string_bytes c.loop-key.s.out) (string_bytes c.push-2.new.self) c.loop-key.first c.loop-key.key-iterator c.args.entries.now.entries c.loop-key.invariant c.in-None.ensures.steps.0 closed) (pushed c.push-2.result (string_bytes c.loop-key.s.out) (string_bytes c.push-2.new.self) (encode_utf8 125) c.push-2.ensures.bytes)
