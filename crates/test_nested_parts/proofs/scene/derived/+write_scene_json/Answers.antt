-- Written by derive_files.
use Rattle.std.proofs.Common.{◌++◌, true, string_bytes}
use Rattle.std.proofs.lemmas.Result.{on_ok_weaker}
use Rattle.nano_grammar.specs.FieldCodec.{field_text}
use Rattle.nano_text.proofs.RollbackLaws.{unchanged_by}
use Rattle.nano_json_schema.specs.FieldCodecs.{json_fields}
use Rattle.nano_json_schema.proofs.WrittenFields.{more_fields}
use Rattle.nano_json_nested.proofs.WrittenLaws.{written_between}
use Rattle.test_nested_parts.proofs.SceneJsonCodecsLaws.{scene_json_text, scene_json_field_mode, scene_json_field_scenes}
use Rattle.test_nested_parts.proofs.scene.derived.+write_scene_json.Goals as goal

pub SceneWritesJson::write_json-rollback_on_error-requires :
    goal.SceneWritesJson::write_json-rollback_on_error-requires
SceneWritesJson::write_json-rollback_on_error-requires t c =
    unchanged_by c.append_record-written.result c.args.s.now.out
    c.append_record-written.new.s.out c.len-start.result _ c.len-start.ensures
    c.append_record-written.ensures.ok c.append_record-written.ensures.err

pub SceneJsonWriter::append_record-returns-clause-ok :
    goal.SceneJsonWriter::append_record-returns-clause-ok
SceneJsonWriter::append_record-returns-clause-ok t c =
    let x = c.args.value.now in
    let inner = c.saturating_add-inner.result in
    let before = string_bytes c.args.s.now.out in
    let opened = string_bytes c.st_pre.new.self.out in
    let row =
    more_fields (field_text json_fields inner) true c.in_ok-scenes_is_first.scenes_is_first (scene_json_field_mode x) (scene_json_field_scenes x)
    opened (string_bytes c.append_fields.new.s.out) (string_bytes c.append_required_within.new.s.out)
    (c.in_ok-scenes_is_first.ensures.ok) (c.in_ok-scenes_is_first.ensures.next) (c.in_ok-append_required_within.ensures.ok) in
    rw (scene_json_text c.args.d x)
    (on_ok_weaker c.st_post.result
    (written_between c.args.d inner ((scene_json_field_mode x) ++ (scene_json_field_scenes x)) before opened
    (string_bytes c.append_required_within.new.s.out) (string_bytes c.st_post.new.self.out) c.saturating_add-inner.ensures
    c.in_ok-st_pre.ensures.ok row) c.st_post.ensures.ok)
