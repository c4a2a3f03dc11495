use Rattle.std.proofs.Common.{string_bytes, codes}
use Rattle.std.proofs.lemmas.Result.{on_ok_weaker}
use Rattle.nano_grammar.proofs.WrittenLists.{pushed}
use Rattle.nano_ron.proofs.Canonical.{part_written}
use Rattle.nano_ron_schema.proofs.wide.append_part.Goals as goal

pub returns-clause-ok : goal.returns-clause-ok
returns-clause-ok g c =
    let mid = string_bytes c.ser_ron.new.s.out in
    let after = string_bytes c.push_str.new.self in
    on_ok_weaker c.push_str.result (λ last. part_written (string_bytes c.args.s.now.out) mid after (g.T.RonCodec.ron.canonical.text c.args.d c.args.part.now) c.in_ok-ser_ron.ensures.ok last) (pushed c.push_str.result mid after (codes ", ") c.push_str.ensures.bytes)
