use Rattle.std.proofs.Common.{[], ◌∷◌, string_bytes, encode_utf8}
use Rattle.std.proofs.lemmas.Result.{on_ok_weaker}
use Rattle.nano_grammar.proofs.WrittenLists.{pushed, both_written, one_written}
use Rattle.nano_json_schema.proofs.wide.append_last.Goals as goal

pub returns-clause-ok : goal.returns-clause-ok
returns-clause-ok g c =
    let mid = string_bytes c.ser_json.new.s.out in
    let after = string_bytes c.push.new.self in
    on_ok_weaker c.push.result (λ last. both_written (string_bytes c.args.s.now.out) mid after (g.T.JsonCodec.json.canonical.text c.args.d c.args.part.now) (93 ∷ []) c.in_ok-ser_json.ensures.ok (one_written mid after 93 last)) (pushed c.push.result mid after (encode_utf8 93) c.push.ensures.bytes)
