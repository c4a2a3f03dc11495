-- Written by derive_files.
use Rattle.std.proofs.Common.{◌++◌, chars, codes, string_bytes}
use Rattle.std.proofs.lemmas.Result.{on_ok_weaker}
use Rattle.nano_grammar.specs.FieldCodec.{field_text, fields_text}
use Rattle.nano_grammar.proofs.WrittenLists.{both_written}
use Rattle.nano_text.proofs.RollbackLaws.{unchanged_by}
use Rattle.nano_ron_schema.specs.FieldCodecs.{ron_fields}
use Rattle.nano_ron_schema.proofs.WrittenFields.{more_lines}
use Rattle.nano_ron_nested.proofs.WrittenLaws.{written_between}
use Rattle.test_nested.proofs.StatementRonCodecsLaws.{branch_ron_field_then, branch_ron_field_otherwise}
use Rattle.test_nested.proofs.statement.derived.+write_statement_ron.Goals as goal

pub BranchWritesRon::write_ron-rollback_on_error-requires :
    goal.BranchWritesRon::write_ron-rollback_on_error-requires
BranchWritesRon::write_ron-rollback_on_error-requires t c =
    unchanged_by c.append_record-written.result c.args.s.now.out c.append_record-written.new.s.out
    c.len-start.result _ c.len-start.ensures c.append_record-written.ensures.ok
    c.append_record-written.ensures.err

pub BranchRonWriter::append_record-returns-clause-ok : goal.BranchRonWriter::append_record-returns-clause-ok
BranchRonWriter::append_record-returns-clause-ok t c =
    let x = c.args.value.now in
    let inner = c.saturating_add-inner.result in
    let before = string_bytes c.args.s.now.out in
    let opened = string_bytes c.st_pre.new.self.out in
    let row =
    more_lines inner (field_text ron_fields inner) (branch_ron_field_then x) (branch_ron_field_otherwise x)
    opened (string_bytes c.append_required_within.new.s.out)
    (string_bytes c.append_optional_within.new.s.out) (c.in_ok-append_required_within.ensures.ok) (c.in_ok-append_optional_within.ensures.ok) in
    (on_ok_weaker c.st_post.result
    (written_between c.args.d inner ((branch_ron_field_then x) ++ (branch_ron_field_otherwise x)) before opened
    (string_bytes c.append_optional_within.new.s.out) (string_bytes c.st_post.new.self.out) c.saturating_add-inner.ensures
    c.in_ok-st_pre.ensures.ok row) c.st_post.ensures.ok)
