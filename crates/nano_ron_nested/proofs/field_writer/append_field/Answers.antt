use Rattle.std.proofs.Common.{string_bytes}
use Rattle.std.proofs.lemmas.Result.{on_ok_weaker}
use Rattle.nano_ron_schema.proofs.WrittenFields.{field_on_a_line}
use Rattle.nano_ron_nested.proofs.field_writer.append_field.Goals as goal

pub returns-clause-ok : goal.returns-clause-ok
returns-clause-ok g c =
    on_ok_weaker c.conl.result
    (field_on_a_line c.args.d (string_bytes c.args.s.now.out) (string_bytes c.field.new.self.out)
    (string_bytes c.ser_ron.new.s.out) (string_bytes c.conl.new.self.out) c.args.name.now
    (g.T.RonCodec.ron.canonical.text c.args.d c.args.value.now) c.utf8.name
    c.in_ok-field.ensures.ok c.in_ok-ser_ron.ensures.ok) c.conl.ensures.ok
