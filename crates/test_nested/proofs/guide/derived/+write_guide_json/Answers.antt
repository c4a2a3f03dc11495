-- Written by derive_files.
use Rattle.std.proofs.Common.{◌++◌, true, string_bytes}
use Rattle.std.proofs.lemmas.Result.{on_ok_weaker}
use Rattle.nano_grammar.specs.FieldCodec.{field_text}
use Rattle.nano_text.proofs.RollbackLaws.{unchanged_by}
use Rattle.nano_json_schema.specs.FieldCodecs.{json_fields}
use Rattle.nano_json_schema.proofs.WrittenFields.{more_fields}
use Rattle.nano_json_nested.proofs.WrittenLaws.{written_between}
use Rattle.test_nested.proofs.GuideJsonCodecsLaws.{way_json_field_minutes, way_json_field_guide, stop_json_field_ways, stop_json_field_best, guide_json_text, guide_json_field_name, guide_json_field_stops, guide_json_field_next}
use Rattle.test_nested.proofs.guide.derived.+write_guide_json.Goals as goal

pub WayWritesJson::write_json-rollback_on_error-requires :
    goal.WayWritesJson::write_json-rollback_on_error-requires
WayWritesJson::write_json-rollback_on_error-requires t c =
    unchanged_by c.append_record-written.result c.args.s.now.out
    c.append_record-written.new.s.out c.len-start.result _ c.len-start.ensures
    c.append_record-written.ensures.ok c.append_record-written.ensures.err

pub WayJsonWriter::append_record-returns-clause-ok :
    goal.WayJsonWriter::append_record-returns-clause-ok
WayJsonWriter::append_record-returns-clause-ok t c =
    let x = c.args.value.now in
    let inner = c.saturating_add-inner.result in
    let before = string_bytes c.args.s.now.out in
    let opened = string_bytes c.st_pre.new.self.out in
    let row =
    more_fields (field_text json_fields inner) true c.in_ok-guide_is_first.guide_is_first (way_json_field_minutes x) (way_json_field_guide x)
    opened (string_bytes c.append_fields.new.s.out) (string_bytes c.append_required_within.new.s.out)
    (c.in_ok-guide_is_first.ensures.ok) (c.in_ok-guide_is_first.ensures.next) (c.in_ok-append_required_within.ensures.ok) in
    (on_ok_weaker c.st_post.result
    (written_between c.args.d inner ((way_json_field_minutes x) ++ (way_json_field_guide x)) before opened
    (string_bytes c.append_required_within.new.s.out) (string_bytes c.st_post.new.self.out) c.saturating_add-inner.ensures
    c.in_ok-st_pre.ensures.ok row) c.st_post.ensures.ok)

pub StopWritesJson::write_json-rollback_on_error-requires :
    goal.StopWritesJson::write_json-rollback_on_error-requires
StopWritesJson::write_json-rollback_on_error-requires t c =
    unchanged_by c.append_record-written.result c.args.s.now.out
    c.append_record-written.new.s.out c.len-start.result _ c.len-start.ensures
    c.append_record-written.ensures.ok c.append_record-written.ensures.err

pub StopJsonWriter::append_record-returns-clause-ok :
    goal.StopJsonWriter::append_record-returns-clause-ok
StopJsonWriter::append_record-returns-clause-ok t c =
    let x = c.args.value.now in
    let inner = c.saturating_add-inner.result in
    let before = string_bytes c.args.s.now.out in
    let opened = string_bytes c.st_pre.new.self.out in
    let row =
    more_fields (field_text json_fields inner) true c.in_ok-best_is_first.best_is_first (stop_json_field_ways x) (stop_json_field_best x)
    opened (string_bytes c.append_required_within.new.s.out) (string_bytes c.append_optional_within.new.s.out)
    (c.in_ok-best_is_first.ensures.ok) (c.in_ok-best_is_first.ensures.next) (c.in_ok-append_optional_within.ensures.ok) in
    (on_ok_weaker c.st_post.result
    (written_between c.args.d inner ((stop_json_field_ways x) ++ (stop_json_field_best x)) before opened
    (string_bytes c.append_optional_within.new.s.out) (string_bytes c.st_post.new.self.out) c.saturating_add-inner.ensures
    c.in_ok-st_pre.ensures.ok row) c.st_post.ensures.ok)

pub GuideWritesJson::write_json-rollback_on_error-requires :
    goal.GuideWritesJson::write_json-rollback_on_error-requires
GuideWritesJson::write_json-rollback_on_error-requires t c =
    unchanged_by c.append_record-written.result c.args.s.now.out
    c.append_record-written.new.s.out c.len-start.result _ c.len-start.ensures
    c.append_record-written.ensures.ok c.append_record-written.ensures.err

pub GuideJsonWriter::append_record-returns-clause-ok :
    goal.GuideJsonWriter::append_record-returns-clause-ok
GuideJsonWriter::append_record-returns-clause-ok t c =
    let x = c.args.value.now in
    let inner = c.saturating_add-inner.result in
    let before = string_bytes c.args.s.now.out in
    let opened = string_bytes c.st_pre.new.self.out in
    let row =
    more_fields (field_text json_fields inner) true c.in_ok-stops_is_first.stops_is_first (guide_json_field_name x) ((guide_json_field_stops x) ++ (guide_json_field_next x))
    opened (string_bytes c.append_fields.new.s.out) (string_bytes c.append_optional_within.new.s.out)
    (c.in_ok-stops_is_first.ensures.ok) (c.in_ok-stops_is_first.ensures.next) (more_fields (field_text json_fields inner) c.in_ok-stops_is_first.stops_is_first c.in_ok-next_is_first.next_is_first (guide_json_field_stops x) (guide_json_field_next x)
    (string_bytes c.append_fields.new.s.out) (string_bytes c.append_required_within.new.s.out) (string_bytes c.append_optional_within.new.s.out)
    (c.in_ok-next_is_first.ensures.ok) (c.in_ok-next_is_first.ensures.next) (c.in_ok-append_optional_within.ensures.ok)) in
    rw (guide_json_text c.args.d x)
    (on_ok_weaker c.st_post.result
    (written_between c.args.d inner ((guide_json_field_name x) ++ ((guide_json_field_stops x) ++ (guide_json_field_next x))) before opened
    (string_bytes c.append_optional_within.new.s.out) (string_bytes c.st_post.new.self.out) c.saturating_add-inner.ensures
    c.in_ok-st_pre.ensures.ok row) c.st_post.ensures.ok)
