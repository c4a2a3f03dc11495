-- Written by derive_files.
use Rattle.std.proofs.Common.{◌++◌, true, string_bytes}
use Rattle.std.proofs.lemmas.Result.{on_ok_weaker}
use Rattle.nano_grammar.specs.FieldCodec.{field_text}
use Rattle.nano_text.proofs.RollbackLaws.{unchanged_by}
use Rattle.nano_json_schema.specs.FieldCodecs.{json_fields}
use Rattle.nano_json_schema.proofs.WrittenFields.{more_fields}
use Rattle.nano_json_nested.proofs.WrittenLaws.{written_between}
use Rattle.test_nested.proofs.StatementJsonCodecsLaws.{branch_json_field_then, branch_json_field_otherwise}
use Rattle.test_nested.proofs.statement.derived.+write_statement_json.Goals as goal

pub BranchWritesJson::write_json-rollback_on_error-requires :
    goal.BranchWritesJson::write_json-rollback_on_error-requires
BranchWritesJson::write_json-rollback_on_error-requires t c =
    unchanged_by c.append_record-written.result c.args.s.now.out
    c.append_record-written.new.s.out c.len-start.result _ c.len-start.ensures
    c.append_record-written.ensures.ok c.append_record-written.ensures.err

pub BranchJsonWriter::append_record-returns-clause-ok :
    goal.BranchJsonWriter::append_record-returns-clause-ok
BranchJsonWriter::append_record-returns-clause-ok t c =
    let x = c.args.value.now in
    let inner = c.saturating_add-inner.result in
    let before = string_bytes c.args.s.now.out in
    let opened = string_bytes c.st_pre.new.self.out in
    let row =
    more_fields (field_text json_fields inner) true c.in_ok-otherwise_is_first.otherwise_is_first (branch_json_field_then x) (branch_json_field_otherwise x)
    opened (string_bytes c.append_required_within.new.s.out) (string_bytes c.append_optional_within.new.s.out)
    (c.in_ok-otherwise_is_first.ensures.ok) (c.in_ok-otherwise_is_first.ensures.next) (c.in_ok-append_optional_within.ensures.ok) in
    (on_ok_weaker c.st_post.result
    (written_between c.args.d inner ((branch_json_field_then x) ++ (branch_json_field_otherwise x)) before opened
    (string_bytes c.append_optional_within.new.s.out) (string_bytes c.st_post.new.self.out) c.saturating_add-inner.ensures
    c.in_ok-st_pre.ensures.ok row) c.st_post.ensures.ok)
