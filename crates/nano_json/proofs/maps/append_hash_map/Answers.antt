use Rattle.std.proofs.Common.{false, drop, arith, ap, ◌∙◌, ◌++◌, string_bytes, encode_utf8}
use Rattle.std.proofs.Common.{encode_utf8_all, refl}
use Rattle.std.proofs.lemmas.List.{drop_all}
use Rattle.std.proofs.lemmas.Result.{on_ok_weaker}
use Rattle.std.specs.Map.Iter.{deref_pair}
use Rattle.nano_grammar.specs.Items.{no_gaps}
use Rattle.nano_grammar.proofs.WrittenLists.{list_begun, list_ended, write_next, mapped_laid_out}
use Rattle.nano_grammar.proofs.WrittenLists.{pushed}
use Rattle.nano_json_tokens.specs.Token.{curly_punctuation}
use Rattle.nano_json.specs.Lists.{written_entry}
use Rattle.nano_json.proofs.maps.append_hash_map.Goals as goal

pub loop-key-init : goal.loop-key-init
loop-key-init g c =
    let W = written_entry (g.K.JsonCodec.json.canonical.text c.args.d) (g.V.JsonCodec.json.canonical.text c.args.d) in
    list_begun no_gaps curly_punctuation (λ e. W (deref_pair e)) refl (string_bytes c.args.s.now.out) (string_bytes c.push.new.self) c.args.entries.now c.args.entries.now c.in_ok-push.ensures.bytes refl

pub loop-key-preserved : goal.loop-key-preserved
loop-key-preserved g c =
    let W = written_entry (g.K.JsonCodec.json.canonical.text c.args.d) (g.V.JsonCodec.json.canonical.text c.args.d) in
    write_next false no_gaps curly_punctuation (λ e. W (deref_pair e)) _ _ _ _ _ _ c.loop-key-item.result c.loop-key-test.true c.loop-key-item.is c.loop-key.invariant c.in_ok-append_entry.ensures.ok

pub returns-clause-ok : goal.returns-clause-ok
returns-clause-ok g c =
    let W = written_entry (g.K.JsonCodec.json.canonical.text c.args.d) (g.V.JsonCodec.json.canonical.text c.args.d) in
    let entries = c.args.entries.now in
    let same = ap (λ l. string_bytes c.args.s.now.out ++ encode_utf8_all l) (mapped_laid_out false no_gaps curly_punctuation W deref_pair entries) in
    on_ok_weaker c.push-2.result (λ closed. list_ended no_gaps curly_punctuation (λ e. W (deref_pair e)) refl (string_bytes c.args.s.now.out) (string_bytes c.loop-key.s.out) (string_bytes c.push-2.new.self) c.loop-key.first (drop c.loop-key.key-index entries) entries c.loop-key.invariant (drop_all c.loop-key.key-index entries (omega arith)) closed ∙ same) (pushed c.push-2.result (string_bytes c.loop-key.s.out) (string_bytes c.push-2.new.self) (encode_utf8 125) c.push-2.ensures.bytes)
