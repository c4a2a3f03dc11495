-- Written by derive_files.
use Rattle.test_nested_shapes.proofs.TermJsonCodecsLaws.{term_json_text_if, term_json_text_repeat}
use Rattle.std.proofs.Common.{◌++◌, true, string_bytes}
use Rattle.std.proofs.lemmas.Result.{on_ok_weaker}
use Rattle.nano_grammar.specs.FieldCodec.{field_text}
use Rattle.nano_text.proofs.RollbackLaws.{unchanged_by}
use Rattle.nano_json_schema.specs.FieldCodecs.{json_fields}
use Rattle.nano_json_schema.proofs.WrittenFields.{more_fields}
use Rattle.nano_json_nested.proofs.WrittenLaws.{written_between, named_between}
use Rattle.test_nested_shapes.proofs.TermJsonCodecsLaws.{argument_json_field_named_name, argument_json_field_named_value}
use Rattle.std.specs.Prelude.{codes}
use Rattle.nano_json_tokens.specs.Written.{written_text}
use Rattle.test_nested_shapes.specs.TermJsonCodecs.{term_json, argument_json_content_named}
use Rattle.test_nested_shapes.proofs.term.derived.+write_term_json.Goals as goal

pub ArgumentJsonWriter::write_named-rollback_on_error-requires :
    goal.ArgumentJsonWriter::write_named-rollback_on_error-requires
ArgumentJsonWriter::write_named-rollback_on_error-requires t c =
    unchanged_by c.append_named-written.result c.args.s.now.out
    c.append_named-written.new.s.out c.len-start.result _ c.len-start.ensures
    c.append_named-written.ensures.ok c.append_named-written.ensures.err

pub ArgumentJsonWriter::append_named_fields-returns-clause-ok :
    goal.ArgumentJsonWriter::append_named_fields-returns-clause-ok
ArgumentJsonWriter::append_named_fields-returns-clause-ok t c =
    let inner = c.saturating_add-inner.result in
    let before = string_bytes c.args.s.now.out in
    let opened = string_bytes c.st_pre.new.self.out in
    let row =
    more_fields (field_text json_fields inner) true c.in_ok-value_is_first.value_is_first (argument_json_field_named_name c.args.v0.now) (argument_json_field_named_value c.args.v1.now)
    opened (string_bytes c.append_fields.new.s.out) (string_bytes c.append_optional_within.new.s.out)
    (c.in_ok-value_is_first.ensures.ok) (c.in_ok-value_is_first.ensures.next) (c.in_ok-append_optional_within.ensures.ok) in
    (on_ok_weaker c.st_post.result
    (written_between c.args.d inner ((argument_json_field_named_name c.args.v0.now) ++ (argument_json_field_named_value c.args.v1.now)) before opened
    (string_bytes c.append_optional_within.new.s.out) (string_bytes c.st_post.new.self.out) c.saturating_add-inner.ensures
    c.in_ok-st_pre.ensures.ok row) c.st_post.ensures.ok)

pub ArgumentJsonWriter::append_named-returns-clause-ok : goal.ArgumentJsonWriter::append_named-returns-clause-ok
ArgumentJsonWriter::append_named-returns-clause-ok t c =
    on_ok_weaker c.st_post.result
    (named_between (written_text (codes "Named"))
    ((argument_json_content_named.codec term_json).canonical.text c.args.d (c.args.v0.now, c.args.v1.now))
    (string_bytes c.args.s.now.out) (string_bytes c.st_pre.new.self.out)
    (string_bytes c.ser_json.new.s.out) (string_bytes c.push_str.new.self)
    (string_bytes c.append_named_fields.new.s.out) (string_bytes c.st_post.new.self.out)
    c.in_ok-st_pre.ensures.ok c.in_ok-ser_json.ensures.ok c.in_ok-push_str.ensures.bytes
    c.in_ok-append_named_fields.ensures.ok) c.st_post.ensures.ok

pub TermWritesJson::write_json-returns-in-If-clause-ok : goal.TermWritesJson::write_json-returns-in-If-clause-ok
TermWritesJson::write_json-returns-in-If-clause-ok t c =
    rw (c.in-If.is, term_json_text_if c.args.d c.in-If.first c.in-If.second c.in-If.third)
    c.write_triple_within.ensures.ok

pub TermWritesJson::write_json-returns-in-Repeat-clause-ok : goal.TermWritesJson::write_json-returns-in-Repeat-clause-ok
TermWritesJson::write_json-returns-in-Repeat-clause-ok t c =
    rw (c.in-Repeat.is, term_json_text_repeat c.args.d c.in-Repeat.first c.in-Repeat.second c.in-Repeat.third)
    c.write_triple_within-in-Repeat.ensures.ok
