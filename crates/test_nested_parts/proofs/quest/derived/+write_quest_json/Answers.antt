-- Written by derive_files.
use Rattle.std.proofs.Common.{◌++◌, true, string_bytes}
use Rattle.std.proofs.lemmas.Result.{on_ok_weaker}
use Rattle.nano_grammar.specs.FieldCodec.{field_text}
use Rattle.nano_text.proofs.RollbackLaws.{unchanged_by}
use Rattle.nano_json_schema.specs.FieldCodecs.{json_fields}
use Rattle.nano_json_schema.proofs.WrittenFields.{more_fields}
use Rattle.nano_json_nested.proofs.WrittenLaws.{written_between, named_between}
use Rattle.test_nested_parts.proofs.QuestJsonCodecsLaws.{quest_json_field_all_quests, quest_json_field_all_modes, quest_json_field_all_mode}
use Rattle.std.specs.Prelude.{codes}
use Rattle.nano_json_tokens.specs.Written.{written_text}
use Rattle.test_nested_parts.specs.QuestJsonCodecs.{quest_json, quest_json_content_all}
use Rattle.test_nested_parts.proofs.quest.derived.+write_quest_json.Goals as goal

pub QuestJsonWriter::write_all-rollback_on_error-requires :
    goal.QuestJsonWriter::write_all-rollback_on_error-requires
QuestJsonWriter::write_all-rollback_on_error-requires t c =
    unchanged_by c.append_all-written.result c.args.s.now.out
    c.append_all-written.new.s.out c.len-start.result _ c.len-start.ensures
    c.append_all-written.ensures.ok c.append_all-written.ensures.err

pub QuestJsonWriter::append_all_fields-returns-clause-ok :
    goal.QuestJsonWriter::append_all_fields-returns-clause-ok
QuestJsonWriter::append_all_fields-returns-clause-ok t c =
    let inner = c.saturating_add-inner.result in
    let before = string_bytes c.args.s.now.out in
    let opened = string_bytes c.st_pre.new.self.out in
    let row =
    more_fields (field_text json_fields inner) true c.in_ok-modes_is_first.modes_is_first (quest_json_field_all_quests c.args.v0.now) ((quest_json_field_all_modes c.args.v1.now) ++ (quest_json_field_all_mode c.args.v2.now))
    opened (string_bytes c.append_required_within.new.s.out) (string_bytes c.append_fields-2.new.s.out)
    (c.in_ok-modes_is_first.ensures.ok) (c.in_ok-modes_is_first.ensures.next) (more_fields (field_text json_fields inner) c.in_ok-modes_is_first.modes_is_first c.in_ok-mode_is_first.mode_is_first (quest_json_field_all_modes c.args.v1.now) (quest_json_field_all_mode c.args.v2.now)
    (string_bytes c.append_required_within.new.s.out) (string_bytes c.append_fields.new.s.out) (string_bytes c.append_fields-2.new.s.out)
    (c.in_ok-mode_is_first.ensures.ok) (c.in_ok-mode_is_first.ensures.next) (c.in_ok-append_fields.ensures.ok)) in
    (on_ok_weaker c.st_post.result
    (written_between c.args.d inner ((quest_json_field_all_quests c.args.v0.now) ++ ((quest_json_field_all_modes c.args.v1.now) ++ (quest_json_field_all_mode c.args.v2.now))) before opened
    (string_bytes c.append_fields-2.new.s.out) (string_bytes c.st_post.new.self.out) c.saturating_add-inner.ensures
    c.in_ok-st_pre.ensures.ok row) c.st_post.ensures.ok)

pub QuestJsonWriter::append_all-returns-clause-ok : goal.QuestJsonWriter::append_all-returns-clause-ok
QuestJsonWriter::append_all-returns-clause-ok t c =
    on_ok_weaker c.st_post.result
    (named_between (written_text (codes "All"))
    ((quest_json_content_all.codec quest_json).canonical.text c.args.d (c.args.v0.now, (c.args.v1.now, c.args.v2.now)))
    (string_bytes c.args.s.now.out) (string_bytes c.st_pre.new.self.out)
    (string_bytes c.ser_json.new.s.out) (string_bytes c.push_str.new.self)
    (string_bytes c.append_all_fields.new.s.out) (string_bytes c.st_post.new.self.out)
    c.in_ok-st_pre.ensures.ok c.in_ok-ser_json.ensures.ok c.in_ok-push_str.ensures.bytes
    c.in_ok-append_all_fields.ensures.ok) c.st_post.ensures.ok
