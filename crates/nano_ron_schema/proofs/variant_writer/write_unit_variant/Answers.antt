use Rattle.std.proofs.Common.{string_bytes}
use Rattle.nano_ron_schema.proofs.WrittenFields.{name_pushed}
use Rattle.nano_ron_schema.proofs.variant_writer.write_unit_variant.Goals as goal

pub returns-clause-ok : goal.returns-clause-ok
returns-clause-ok c =
    name_pushed c.push_str.result (string_bytes c.args.s.now.out) (string_bytes c.push_str.new.self)
    c.args.name.now c.utf8.name c.push_str.ensures.bytes
