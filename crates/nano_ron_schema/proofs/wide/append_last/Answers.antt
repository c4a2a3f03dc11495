use Rattle.std.proofs.Common.{[], ◌∷◌, string_bytes, encode_utf8}
use Rattle.std.proofs.lemmas.Result.{on_ok_weaker}
use Rattle.nano_grammar.proofs.WrittenLists.{pushed, both_written, one_written}
use Rattle.nano_ron_schema.proofs.wide.append_last.Goals as goal

pub returns-clause-ok : goal.returns-clause-ok
returns-clause-ok g c =
    let mid = string_bytes c.ser_ron.new.s.out in
    let after = string_bytes c.push.new.self in
    on_ok_weaker c.push.result (λ last. both_written (string_bytes c.args.s.now.out) mid after (g.T.RonCodec.ron.canonical.text c.args.d c.args.part.now) (41 ∷ []) c.in_ok-ser_ron.ensures.ok (one_written mid after 41 last)) (pushed c.push.result mid after (encode_utf8 41) c.push.ensures.bytes)
