use Rattle.std.proofs.Common.{string_bytes}
use Rattle.std.proofs.lemmas.Result.{on_ok_weaker}
use Rattle.nano_grammar.specs.FieldCodec.{field_text}
use Rattle.nano_ron_schema.specs.FieldCodecs.{ron_fields}
use Rattle.nano_ron_schema.proofs.WrittenFields.{more_lines}
use Rattle.nano_ron_schema.proofs.pairs.Tuple2RonRefs.append_fields.Goals as goal

pub returns-clause-ok : goal.returns-clause-ok
returns-clause-ok g c =
    let xs = g.A.RonRefs.codec.canonical.fields (g.A.RonRefs.values c.args.refs.now.0) in
    let ys = g.B.RonRefs.codec.canonical.fields (g.B.RonRefs.values c.args.refs.now.1) in
    on_ok_weaker c.append_fields-2.result
    (more_lines c.args.d (field_text ron_fields c.args.d) xs ys (string_bytes c.args.s.now.out)
    (string_bytes c.append_fields.new.s.out) (string_bytes c.append_fields-2.new.s.out)
    c.in_ok-append_fields.ensures.ok) c.append_fields-2.ensures.ok
