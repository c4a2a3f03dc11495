-- Written by derive_files.
use Rattle.std.proofs.Common.{◌++◌, chars, codes, string_bytes}
use Rattle.std.proofs.lemmas.Result.{on_ok_weaker}
use Rattle.nano_grammar.specs.FieldCodec.{field_text, fields_text}
use Rattle.nano_grammar.proofs.WrittenLists.{both_written}
use Rattle.nano_text.proofs.RollbackLaws.{unchanged_by}
use Rattle.nano_ron_schema.specs.FieldCodecs.{ron_fields}
use Rattle.nano_ron_schema.proofs.WrittenFields.{more_lines}
use Rattle.nano_ron_nested.proofs.WrittenLaws.{written_between}
use Rattle.test_nested_derived_ron.proofs.FilterRonCodecsLaws.{filter_ron_field_has_field, filter_ron_field_has_and}
use Rattle.test_nested_derived_ron.proofs.filter.derived.+write_filter_ron.Goals as goal

pub FilterRonWriter::write_has-rollback_on_error-requires :
    goal.FilterRonWriter::write_has-rollback_on_error-requires
FilterRonWriter::write_has-rollback_on_error-requires t c =
    unchanged_by c.append_has-written.result c.args.s.now.out c.append_has-written.new.s.out
    c.len-start.result _ c.len-start.ensures c.append_has-written.ensures.ok
    c.append_has-written.ensures.err

pub FilterRonWriter::append_has-returns-clause-ok : goal.FilterRonWriter::append_has-returns-clause-ok
FilterRonWriter::append_has-returns-clause-ok t c =
    let inner = c.saturating_add-inner.result in
    let before = string_bytes c.args.s.now.out in
    let named = string_bytes c.write_unit_variant.new.s.out in
    let opened = string_bytes c.st_pre.new.self.out in
    let after = string_bytes c.st_post.new.self.out in
    let row =
    more_lines inner (field_text ron_fields inner) (filter_ron_field_has_field c.args.v0.now) (filter_ron_field_has_and c.args.v1.now)
    opened (string_bytes c.append_required.new.s.out)
    (string_bytes c.append_optional_within.new.s.out) (c.in_ok-append_required.ensures.ok) (c.in_ok-append_optional_within.ensures.ok) in
    on_ok_weaker c.st_post.result
    (λ last. both_written before named after (chars (codes "Has"))
    (fields_text ron_fields c.args.d ((filter_ron_field_has_field c.args.v0.now) ++ (filter_ron_field_has_and c.args.v1.now))) c.in_ok-write_unit_variant.ensures.ok
    (written_between c.args.d inner ((filter_ron_field_has_field c.args.v0.now) ++ (filter_ron_field_has_and c.args.v1.now)) named opened
    (string_bytes c.append_optional_within.new.s.out) after c.saturating_add-inner.ensures c.in_ok-st_pre.ensures.ok row last))
    c.st_post.ensures.ok
