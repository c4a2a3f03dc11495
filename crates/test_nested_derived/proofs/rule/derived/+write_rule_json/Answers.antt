-- Written by derive_files.
use Rattle.std.proofs.Common.{◌++◌, true, string_bytes}
use Rattle.std.proofs.lemmas.Result.{on_ok_weaker}
use Rattle.nano_grammar.specs.FieldCodec.{field_text}
use Rattle.nano_text.proofs.RollbackLaws.{unchanged_by}
use Rattle.nano_json_schema.specs.FieldCodecs.{json_fields}
use Rattle.nano_json_schema.proofs.WrittenFields.{more_fields}
use Rattle.nano_json_nested.proofs.WrittenLaws.{written_between, named_between}
use Rattle.test_nested_derived.proofs.RuleJsonCodecsLaws.{rule_json_field_when_condition, rule_json_field_when_then, rule_json_field_when_otherwise}
use Rattle.std.specs.Prelude.{codes}
use Rattle.nano_json_tokens.specs.Written.{written_text}
use Rattle.test_nested_derived.specs.RuleJsonCodecs.{rule_json, rule_json_content_when}
use Rattle.test_nested_derived.proofs.rule.derived.+write_rule_json.Goals as goal

pub RuleJsonWriter::write_when-rollback_on_error-requires :
    goal.RuleJsonWriter::write_when-rollback_on_error-requires
RuleJsonWriter::write_when-rollback_on_error-requires t c =
    unchanged_by c.append_when-written.result c.args.s.now.out
    c.append_when-written.new.s.out c.len-start.result _ c.len-start.ensures
    c.append_when-written.ensures.ok c.append_when-written.ensures.err

pub RuleJsonWriter::append_when_fields-returns-clause-ok :
    goal.RuleJsonWriter::append_when_fields-returns-clause-ok
RuleJsonWriter::append_when_fields-returns-clause-ok t c =
    let inner = c.saturating_add-inner.result in
    let before = string_bytes c.args.s.now.out in
    let opened = string_bytes c.st_pre.new.self.out in
    let row =
    more_fields (field_text json_fields inner) true c.in_ok-then_is_first.then_is_first (rule_json_field_when_condition c.args.v0.now) ((rule_json_field_when_then c.args.v1.now) ++ (rule_json_field_when_otherwise c.args.v2.now))
    opened (string_bytes c.append_required_within.new.s.out) (string_bytes c.append_optional_within.new.s.out)
    (c.in_ok-then_is_first.ensures.ok) (c.in_ok-then_is_first.ensures.next) (more_fields (field_text json_fields inner) c.in_ok-then_is_first.then_is_first c.in_ok-otherwise_is_first.otherwise_is_first (rule_json_field_when_then c.args.v1.now) (rule_json_field_when_otherwise c.args.v2.now)
    (string_bytes c.append_required_within.new.s.out) (string_bytes c.append_required_within-2.new.s.out) (string_bytes c.append_optional_within.new.s.out)
    (c.in_ok-otherwise_is_first.ensures.ok) (c.in_ok-otherwise_is_first.ensures.next) (c.in_ok-append_optional_within.ensures.ok)) in
    (on_ok_weaker c.st_post.result
    (written_between c.args.d inner ((rule_json_field_when_condition c.args.v0.now) ++ ((rule_json_field_when_then c.args.v1.now) ++ (rule_json_field_when_otherwise c.args.v2.now))) before opened
    (string_bytes c.append_optional_within.new.s.out) (string_bytes c.st_post.new.self.out) c.saturating_add-inner.ensures
    c.in_ok-st_pre.ensures.ok row) c.st_post.ensures.ok)

pub RuleJsonWriter::append_when-returns-clause-ok : goal.RuleJsonWriter::append_when-returns-clause-ok
RuleJsonWriter::append_when-returns-clause-ok t c =
    on_ok_weaker c.st_post.result
    (named_between (written_text (codes "When"))
    ((rule_json_content_when.codec rule_json).canonical.text c.args.d (c.args.v0.now, (c.args.v1.now, c.args.v2.now)))
    (string_bytes c.args.s.now.out) (string_bytes c.st_pre.new.self.out)
    (string_bytes c.ser_json.new.s.out) (string_bytes c.push_str.new.self)
    (string_bytes c.append_when_fields.new.s.out) (string_bytes c.st_post.new.self.out)
    c.in_ok-st_pre.ensures.ok c.in_ok-ser_json.ensures.ok c.in_ok-push_str.ensures.bytes
    c.in_ok-append_when_fields.ensures.ok) c.st_post.ensures.ok
