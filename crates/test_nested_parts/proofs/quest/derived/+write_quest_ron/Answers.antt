-- Written by derive_files.
use Rattle.std.proofs.Common.{◌++◌, chars, codes, string_bytes}
use Rattle.std.proofs.lemmas.Result.{on_ok_weaker}
use Rattle.nano_grammar.specs.FieldCodec.{field_text, fields_text}
use Rattle.nano_grammar.proofs.WrittenLists.{both_written}
use Rattle.nano_text.proofs.RollbackLaws.{unchanged_by}
use Rattle.nano_ron_schema.specs.FieldCodecs.{ron_fields}
use Rattle.nano_ron_schema.proofs.WrittenFields.{more_lines}
use Rattle.nano_ron_nested.proofs.WrittenLaws.{written_between}
use Rattle.test_nested_parts.proofs.QuestRonCodecsLaws.{quest_ron_field_all_quests, quest_ron_field_all_modes, quest_ron_field_all_mode}
use Rattle.test_nested_parts.proofs.quest.derived.+write_quest_ron.Goals as goal

pub QuestRonWriter::write_all-rollback_on_error-requires :
    goal.QuestRonWriter::write_all-rollback_on_error-requires
QuestRonWriter::write_all-rollback_on_error-requires t c =
    unchanged_by c.append_all-written.result c.args.s.now.out c.append_all-written.new.s.out
    c.len-start.result _ c.len-start.ensures c.append_all-written.ensures.ok
    c.append_all-written.ensures.err

pub QuestRonWriter::append_all-returns-clause-ok : goal.QuestRonWriter::append_all-returns-clause-ok
QuestRonWriter::append_all-returns-clause-ok t c =
    let inner = c.saturating_add-inner.result in
    let before = string_bytes c.args.s.now.out in
    let named = string_bytes c.write_unit_variant.new.s.out in
    let opened = string_bytes c.st_pre.new.self.out in
    let after = string_bytes c.st_post.new.self.out in
    let row =
    more_lines inner (field_text ron_fields inner) (quest_ron_field_all_quests c.args.v0.now) ((quest_ron_field_all_modes c.args.v1.now) ++ (quest_ron_field_all_mode c.args.v2.now))
    opened (string_bytes c.append_required_within.new.s.out)
    (string_bytes c.append_optional.new.s.out) (c.in_ok-append_required_within.ensures.ok) (more_lines inner (field_text ron_fields inner) (quest_ron_field_all_modes c.args.v1.now) (quest_ron_field_all_mode c.args.v2.now)
    (string_bytes c.append_required_within.new.s.out) (string_bytes c.append_required.new.s.out)
    (string_bytes c.append_optional.new.s.out) (c.in_ok-append_required.ensures.ok) (c.in_ok-append_optional.ensures.ok)) in
    on_ok_weaker c.st_post.result
    (λ last. both_written before named after (chars (codes "All"))
    (fields_text ron_fields c.args.d ((quest_ron_field_all_quests c.args.v0.now) ++ ((quest_ron_field_all_modes c.args.v1.now) ++ (quest_ron_field_all_mode c.args.v2.now)))) c.in_ok-write_unit_variant.ensures.ok
    (written_between c.args.d inner ((quest_ron_field_all_quests c.args.v0.now) ++ ((quest_ron_field_all_modes c.args.v1.now) ++ (quest_ron_field_all_mode c.args.v2.now))) named opened
    (string_bytes c.append_optional.new.s.out) after c.saturating_add-inner.ensures c.in_ok-st_pre.ensures.ok row last))
    c.st_post.ensures.ok
