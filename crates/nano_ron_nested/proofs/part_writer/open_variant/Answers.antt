use Rattle.std.proofs.Common.{[], ◌∷◌, chars, string_bytes, encode_utf8}
use Rattle.std.proofs.lemmas.Result.{on_ok_weaker}
use Rattle.nano_grammar.proofs.WrittenLists.{pushed, both_written, one_written}
use Rattle.nano_ron_nested.proofs.part_writer.open_variant.Goals as goal

pub returns-clause-ok : goal.returns-clause-ok
returns-clause-ok c =
    let mid = string_bytes c.write_unit_variant.new.s.out in
    let after = string_bytes c.push.new.self in
    on_ok_weaker c.push.result (λ last. both_written (string_bytes c.args.s.now.out) mid after (chars c.args.name.now) (40 ∷ []) c.in_ok-write_unit_variant.ensures.ok (one_written mid after 40 last)) (pushed c.push.result mid after (encode_utf8 40) c.push.ensures.bytes)
