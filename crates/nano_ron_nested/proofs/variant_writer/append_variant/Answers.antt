use Rattle.std.proofs.Common.{[], ◌∷◌, ◌++◌, string_bytes, chars}
use Rattle.std.proofs.lemmas.Result.{on_ok_weaker}
use Rattle.nano_grammar.proofs.WrittenLists.{both_written, after_punctuator}
use Rattle.nano_ron_nested.proofs.variant_writer.append_variant.Goals as goal

pub returns-clause-ok : goal.returns-clause-ok
returns-clause-ok g c =
    let named = string_bytes c.write_unit_variant.new.s.out in
    let opened = string_bytes c.push.new.self in
    let after = string_bytes c.append_last_within.new.s.out in
    let inside = g.T.RonCodec.ron.canonical.text c.args.d c.args.part.now ++ 41 ∷ [] in
    on_ok_weaker c.append_last_within.result
    (λ last. both_written (string_bytes c.args.s.now.out) named after (chars c.args.name.now)
    (40 ∷ inside) c.in_ok-write_unit_variant.ensures.ok
    (after_punctuator named opened after 40 inside c.in_ok-push.ensures.bytes last))
    c.append_last_within.ensures.ok
