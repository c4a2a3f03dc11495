use Rattle.std.proofs.Common.{◌≡◌, ◌++◌, string_bytes}
use Rattle.std.proofs.lemmas.Result.{on_ok_weaker}
use Rattle.nano_json_schema.proofs.WrittenFields.{comma_before, comma_written, no_comma_written}
use Rattle.nano_json_schema.proofs.WrittenFields.{field_after_comma}
use Rattle.nano_json_nested.proofs.field_writer.append_field_within.Goals as goal
use Rattle.nano_json_nested.proofs.field_writer.append_field_within.Goals.{then-not-first+in_ok-conl}
use Rattle.nano_json_nested.proofs.field_writer.append_field_within.Goals.{else-not-first}

pub returns-clause-ok : goal.returns-clause-ok
returns-clause-ok g c =
    let before = string_bytes c.args.s.now.out in
    let first = c.args.first in
    let opened : string_bytes c.if-not-first.s.out ≡ before ++ comma_before first =
    elim c.if-not-first.branch [
      | then-not-first+in_ok-conl w ↦
          rw w.s-is (comma_written first before _ w.if-not-first.true w.in_ok-conl.ensures.ok)
      | else-not-first w ↦ rw w.s-is (no_comma_written first before w.if-not-first.false)
    ] in
    on_ok_weaker c.write_json.result
    (field_after_comma first before (string_bytes c.if-not-first.s.out)
    (string_bytes c.field.new.self.out) (string_bytes c.write_json.new.s.out) c.args.name.now
    (g.T.JsonCodec.json.canonical.text c.args.d c.args.value.now) c.utf8.name opened
    c.in_ok-field.ensures.ok) c.write_json.ensures.ok
