use Rattle.std.proofs.Common.{string_bytes, chars}
use Rattle.std.proofs.lemmas.Result.{on_ok_weaker}
use Rattle.nano_grammar.specs.FieldCodec.{fields_text}
use Rattle.nano_ron_schema.specs.FieldCodecs.{ron_fields}
use Rattle.nano_grammar.proofs.WrittenLists.{both_written}
use Rattle.nano_ron_schema.proofs.variant_writer.append_fields_variant.Goals as goal

pub returns-clause-ok : goal.returns-clause-ok
returns-clause-ok g c =
    on_ok_weaker c.write_fields.result
    (both_written (string_bytes c.args.s.now.out) (string_bytes c.write_unit_variant.new.s.out)
    (string_bytes c.write_fields.new.s.out) (chars c.args.name.now)
    (fields_text ron_fields c.args.d (g.F.RonRefs.codec.canonical.fields (g.F.RonRefs.values c.args.refs.now)))
    c.in_ok-write_unit_variant.ensures.ok) c.write_fields.ensures.ok
