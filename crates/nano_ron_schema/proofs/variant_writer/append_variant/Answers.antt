use Rattle.std.proofs.Common.{string_bytes, chars}
use Rattle.std.proofs.lemmas.Result.{on_ok_weaker}
use Rattle.nano_grammar.proofs.WrittenLists.{both_written}
use Rattle.nano_ron_schema.proofs.variant_writer.append_variant.Goals as goal

pub returns-clause-ok : goal.returns-clause-ok
returns-clause-ok g c =
    on_ok_weaker c.ser_ron.result
    (both_written (string_bytes c.args.s.now.out) (string_bytes c.write_unit_variant.new.s.out)
    (string_bytes c.ser_ron.new.s.out) (chars c.args.name.now)
    (g.T.RonCodec.ron.canonical.text c.args.d c.args.content.now)
    c.in_ok-write_unit_variant.ensures.ok) c.ser_ron.ensures.ok
