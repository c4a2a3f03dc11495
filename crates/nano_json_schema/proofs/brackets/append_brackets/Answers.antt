use Rattle.std.proofs.Common.{[], ◌∷◌, ◌++◌, string_bytes, encode_utf8}
use Rattle.std.proofs.lemmas.Result.{on_ok_weaker}
use Rattle.nano_grammar.proofs.WrittenLists.{pushed, after_punctuator, both_written, one_written}
use Rattle.nano_json_schema.proofs.brackets.append_brackets.Goals as goal

pub returns-clause-ok : goal.returns-clause-ok
returns-clause-ok g c =
    let text = g.T.JsonCodec.json.canonical.text c.args.d c.args.part.now in
    let opened = string_bytes c.push.new.self in
    let mid = string_bytes c.ser_json.new.s.out in
    let after = string_bytes c.push-2.new.self in
    on_ok_weaker c.push-2.result (λ last. after_punctuator (string_bytes c.args.s.now.out) opened after 91 (text ++ 93 ∷ []) c.in_ok-push.ensures.bytes (both_written opened mid after text (93 ∷ []) c.in_ok-ser_json.ensures.ok (one_written mid after 93 last))) (pushed c.push-2.result mid after (encode_utf8 93) c.push-2.ensures.bytes)
