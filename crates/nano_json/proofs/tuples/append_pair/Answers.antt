use Rattle.std.proofs.Common.{[], ◌∷◌, ◌++◌, string_bytes}
use Rattle.std.proofs.lemmas.Result.{on_ok_weaker}
use Rattle.nano_grammar.proofs.WrittenLists.{after_punctuator, parts_written}
use Rattle.nano_json.proofs.tuples.append_pair.Goals as goal

pub returns-clause-ok : goal.returns-clause-ok
returns-clause-ok g c =
    let comma = 44 ∷ [] in
    let after = string_bytes c.append_part-2.new.s.out in
    let m0 = string_bytes c.push.new.self in
    let m1 = string_bytes c.append_part.new.s.out in
    let t1 = (g.B.JsonCodec.json.canonical.text c.args.d c.args.parts.now.1) ++ 93 ∷ [] in
    let t0 = (g.A.JsonCodec.json.canonical.text c.args.d c.args.parts.now.0) ++ 44 ∷ t1 in
    on_ok_weaker c.append_part-2.result (λ last. after_punctuator (string_bytes c.args.s.now.out) m0 after 91 t0 c.in_ok-push.ensures.bytes (parts_written m0 m1 after (g.A.JsonCodec.json.canonical.text c.args.d c.args.parts.now.0) comma t1 c.in_ok-append_part.ensures.ok last)) c.append_part-2.ensures.ok
