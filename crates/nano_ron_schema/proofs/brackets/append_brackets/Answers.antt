use Rattle.std.proofs.Common.{[], ◌∷◌, ◌++◌, string_bytes, encode_utf8}
use Rattle.std.proofs.lemmas.Result.{on_ok_weaker}
use Rattle.nano_grammar.proofs.WrittenLists.{pushed, after_punctuator, both_written, one_written}
use Rattle.nano_ron_schema.proofs.brackets.append_brackets.Goals as goal

pub returns-clause-ok : goal.returns-clause-ok
returns-clause-ok g c =
    let text = g.T.RonCodec.ron.canonical.text c.args.d c.args.part.now in
    let opened = string_bytes c.push.new.self in
    let mid = string_bytes c.ser_ron.new.s.out in
    let after = string_bytes c.push-2.new.self in
    on_ok_weaker c.push-2.result (λ last. after_punctuator (string_bytes c.args.s.now.out) opened after 40 (text ++ 41 ∷ []) c.in_ok-push.ensures.bytes (both_written opened mid after text (41 ∷ []) c.in_ok-ser_ron.ensures.ok (one_written mid after 41 last))) (pushed c.push-2.result mid after (encode_utf8 41) c.push-2.ensures.bytes)
