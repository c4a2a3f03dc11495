use Rattle.std.proofs.Common.{[], ◌∷◌, ◌++◌, string_bytes}
use Rattle.std.proofs.lemmas.Result.{on_ok_weaker}
use Rattle.nano_grammar.proofs.WrittenLists.{after_punctuator, parts_written}
use Rattle.nano_json.proofs.tuples.append_quadruple.Goals as goal

pub returns-clause-ok : goal.returns-clause-ok
returns-clause-ok g c =
    let comma = 44 ∷ [] in
    let after = string_bytes c.append_part-4.new.s.out in
    let m0 = string_bytes c.push.new.self in
    let m1 = string_bytes c.append_part.new.s.out in
    let m2 = string_bytes c.append_part-2.new.s.out in
    let m3 = string_bytes c.append_part-3.new.s.out in
    let t3 = (g.D.JsonCodec.json.canonical.text c.args.d c.args.parts.now.3) ++ 93 ∷ [] in
    let t2 = (g.C.JsonCodec.json.canonical.text c.args.d c.args.parts.now.2) ++ 44 ∷ t3 in
    let t1 = (g.B.JsonCodec.json.canonical.text c.args.d c.args.parts.now.1) ++ 44 ∷ t2 in
    let t0 = (g.A.JsonCodec.json.canonical.text c.args.d c.args.parts.now.0) ++ 44 ∷ t1 in
    on_ok_weaker c.append_part-4.result (λ last. after_punctuator (string_bytes c.args.s.now.out) m0 after 91 t0 c.in_ok-push.ensures.bytes (parts_written m0 m1 after (g.A.JsonCodec.json.canonical.text c.args.d c.args.parts.now.0) comma t1 c.in_ok-append_part.ensures.ok (parts_written m1 m2 after (g.B.JsonCodec.json.canonical.text c.args.d c.args.parts.now.1) comma t2 c.in_ok-append_part-2.ensures.ok (parts_written m2 m3 after (g.C.JsonCodec.json.canonical.text c.args.d c.args.parts.now.2) comma t3 c.in_ok-append_part-3.ensures.ok last)))) c.append_part-4.ensures.ok
