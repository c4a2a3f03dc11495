use Rattle.std.proofs.Common.{string_bytes}
use Rattle.std.proofs.lemmas.Result.{on_ok_weaker}
use Rattle.nano_grammar.specs.FieldCodec.{field_text}
use Rattle.nano_json_schema.specs.FieldCodecs.{json_fields}
use Rattle.nano_json_schema.proofs.WrittenFields.{more_fields}
use Rattle.nano_json_schema.proofs.pairs.Tuple2JsonRefs.append_fields.Goals as goal

pub returns-clause-ok : goal.returns-clause-ok
returns-clause-ok g c =
    let xs = g.A.JsonRefs.codec.canonical.fields (g.A.JsonRefs.values c.args.refs.now.0) in
    let ys = g.B.JsonRefs.codec.canonical.fields (g.B.JsonRefs.values c.args.refs.now.1) in
    on_ok_weaker c.append_fields-2.result
    (more_fields (field_text json_fields c.args.d) c.args.first c.in_ok-still_first.still_first xs
    ys (string_bytes c.args.s.now.out) (string_bytes c.append_fields.new.s.out)
    (string_bytes c.append_fields-2.new.s.out) c.in_ok-still_first.ensures.ok
    c.in_ok-still_first.ensures.next) c.append_fields-2.ensures.ok
