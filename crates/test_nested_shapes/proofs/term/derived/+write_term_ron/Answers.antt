-- Written by derive_files.
use Rattle.test_nested_shapes.proofs.TermRonCodecsLaws.{term_ron_text_if, term_ron_text_repeat}
use Rattle.std.proofs.Common.{◌++◌, chars, codes, string_bytes}
use Rattle.std.proofs.lemmas.Result.{on_ok_weaker}
use Rattle.nano_grammar.specs.FieldCodec.{field_text, fields_text}
use Rattle.nano_grammar.proofs.WrittenLists.{both_written}
use Rattle.nano_text.proofs.RollbackLaws.{unchanged_by}
use Rattle.nano_ron_schema.specs.FieldCodecs.{ron_fields}
use Rattle.nano_ron_schema.proofs.WrittenFields.{more_lines}
use Rattle.nano_ron_nested.proofs.WrittenLaws.{written_between}
use Rattle.test_nested_shapes.proofs.TermRonCodecsLaws.{argument_ron_field_named_name, argument_ron_field_named_value}
use Rattle.test_nested_shapes.proofs.term.derived.+write_term_ron.Goals as goal

pub ArgumentRonWriter::write_named-rollback_on_error-requires :
    goal.ArgumentRonWriter::write_named-rollback_on_error-requires
ArgumentRonWriter::write_named-rollback_on_error-requires t c =
    unchanged_by c.append_named-written.result c.args.s.now.out c.append_named-written.new.s.out
    c.len-start.result _ c.len-start.ensures c.append_named-written.ensures.ok
    c.append_named-written.ensures.err

pub ArgumentRonWriter::append_named-returns-clause-ok : goal.ArgumentRonWriter::append_named-returns-clause-ok
ArgumentRonWriter::append_named-returns-clause-ok t c =
    let inner = c.saturating_add-inner.result in
    let before = string_bytes c.args.s.now.out in
    let named = string_bytes c.write_unit_variant.new.s.out in
    let opened = string_bytes c.st_pre.new.self.out in
    let after = string_bytes c.st_post.new.self.out in
    let row =
    more_lines inner (field_text ron_fields inner) (argument_ron_field_named_name c.args.v0.now) (argument_ron_field_named_value c.args.v1.now)
    opened (string_bytes c.append_required.new.s.out)
    (string_bytes c.append_optional_within.new.s.out) (c.in_ok-append_required.ensures.ok) (c.in_ok-append_optional_within.ensures.ok) in
    on_ok_weaker c.st_post.result
    (λ last. both_written before named after (chars (codes "Named"))
    (fields_text ron_fields c.args.d ((argument_ron_field_named_name c.args.v0.now) ++ (argument_ron_field_named_value c.args.v1.now))) c.in_ok-write_unit_variant.ensures.ok
    (written_between c.args.d inner ((argument_ron_field_named_name c.args.v0.now) ++ (argument_ron_field_named_value c.args.v1.now)) named opened
    (string_bytes c.append_optional_within.new.s.out) after c.saturating_add-inner.ensures c.in_ok-st_pre.ensures.ok row last))
    c.st_post.ensures.ok

pub TermWritesRon::write_ron-returns-in-If-clause-ok : goal.TermWritesRon::write_ron-returns-in-If-clause-ok
TermWritesRon::write_ron-returns-in-If-clause-ok t c =
    rw (c.in-If.is, term_ron_text_if c.args.d c.in-If.first c.in-If.second c.in-If.third)
    c.write_triple_within.ensures.ok

pub TermWritesRon::write_ron-returns-in-Repeat-clause-ok : goal.TermWritesRon::write_ron-returns-in-Repeat-clause-ok
TermWritesRon::write_ron-returns-in-Repeat-clause-ok t c =
    rw (c.in-Repeat.is, term_ron_text_repeat c.args.d c.in-Repeat.first c.in-Repeat.second c.in-Repeat.third)
    c.write_triple_within-in-Repeat.ensures.ok
