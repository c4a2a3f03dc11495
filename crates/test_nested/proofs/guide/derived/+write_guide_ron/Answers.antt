-- Written by derive_files.
use Rattle.std.proofs.Common.{◌++◌, chars, codes, string_bytes}
use Rattle.std.proofs.lemmas.Result.{on_ok_weaker}
use Rattle.nano_grammar.specs.FieldCodec.{field_text, fields_text}
use Rattle.nano_grammar.proofs.WrittenLists.{both_written}
use Rattle.nano_text.proofs.RollbackLaws.{unchanged_by}
use Rattle.nano_ron_schema.specs.FieldCodecs.{ron_fields}
use Rattle.nano_ron_schema.proofs.WrittenFields.{more_lines}
use Rattle.nano_ron_nested.proofs.WrittenLaws.{written_between}
use Rattle.test_nested.proofs.GuideRonCodecsLaws.{way_ron_field_minutes, way_ron_field_guide, stop_ron_field_ways, stop_ron_field_best, guide_ron_field_name, guide_ron_field_stops, guide_ron_field_next, guide_ron_text}
use Rattle.test_nested.proofs.guide.derived.+write_guide_ron.Goals as goal

pub WayWritesRon::write_ron-rollback_on_error-requires :
    goal.WayWritesRon::write_ron-rollback_on_error-requires
WayWritesRon::write_ron-rollback_on_error-requires t c =
    unchanged_by c.append_record-written.result c.args.s.now.out c.append_record-written.new.s.out
    c.len-start.result _ c.len-start.ensures c.append_record-written.ensures.ok
    c.append_record-written.ensures.err

pub WayRonWriter::append_record-returns-clause-ok : goal.WayRonWriter::append_record-returns-clause-ok
WayRonWriter::append_record-returns-clause-ok t c =
    let x = c.args.value.now in
    let inner = c.saturating_add-inner.result in
    let before = string_bytes c.args.s.now.out in
    let opened = string_bytes c.st_pre.new.self.out in
    let row =
    more_lines inner (field_text ron_fields inner) (way_ron_field_minutes x) (way_ron_field_guide x)
    opened (string_bytes c.append_required.new.s.out)
    (string_bytes c.append_required_within.new.s.out) (c.in_ok-append_required.ensures.ok) (c.in_ok-append_required_within.ensures.ok) in
    (on_ok_weaker c.st_post.result
    (written_between c.args.d inner ((way_ron_field_minutes x) ++ (way_ron_field_guide x)) before opened
    (string_bytes c.append_required_within.new.s.out) (string_bytes c.st_post.new.self.out) c.saturating_add-inner.ensures
    c.in_ok-st_pre.ensures.ok row) c.st_post.ensures.ok)

pub StopWritesRon::write_ron-rollback_on_error-requires :
    goal.StopWritesRon::write_ron-rollback_on_error-requires
StopWritesRon::write_ron-rollback_on_error-requires t c =
    unchanged_by c.append_record-written.result c.args.s.now.out c.append_record-written.new.s.out
    c.len-start.result _ c.len-start.ensures c.append_record-written.ensures.ok
    c.append_record-written.ensures.err

pub StopRonWriter::append_record-returns-clause-ok : goal.StopRonWriter::append_record-returns-clause-ok
StopRonWriter::append_record-returns-clause-ok t c =
    let x = c.args.value.now in
    let inner = c.saturating_add-inner.result in
    let before = string_bytes c.args.s.now.out in
    let opened = string_bytes c.st_pre.new.self.out in
    let row =
    more_lines inner (field_text ron_fields inner) (stop_ron_field_ways x) (stop_ron_field_best x)
    opened (string_bytes c.append_required_within.new.s.out)
    (string_bytes c.append_optional_within.new.s.out) (c.in_ok-append_required_within.ensures.ok) (c.in_ok-append_optional_within.ensures.ok) in
    (on_ok_weaker c.st_post.result
    (written_between c.args.d inner ((stop_ron_field_ways x) ++ (stop_ron_field_best x)) before opened
    (string_bytes c.append_optional_within.new.s.out) (string_bytes c.st_post.new.self.out) c.saturating_add-inner.ensures
    c.in_ok-st_pre.ensures.ok row) c.st_post.ensures.ok)

pub GuideWritesRon::write_ron-rollback_on_error-requires :
    goal.GuideWritesRon::write_ron-rollback_on_error-requires
GuideWritesRon::write_ron-rollback_on_error-requires t c =
    unchanged_by c.append_record-written.result c.args.s.now.out c.append_record-written.new.s.out
    c.len-start.result _ c.len-start.ensures c.append_record-written.ensures.ok
    c.append_record-written.ensures.err

pub GuideRonWriter::append_record-returns-clause-ok : goal.GuideRonWriter::append_record-returns-clause-ok
GuideRonWriter::append_record-returns-clause-ok t c =
    let x = c.args.value.now in
    let inner = c.saturating_add-inner.result in
    let before = string_bytes c.args.s.now.out in
    let opened = string_bytes c.st_pre.new.self.out in
    let row =
    more_lines inner (field_text ron_fields inner) (guide_ron_field_name x) ((guide_ron_field_stops x) ++ (guide_ron_field_next x))
    opened (string_bytes c.append_required.new.s.out)
    (string_bytes c.append_optional_within.new.s.out) (c.in_ok-append_required.ensures.ok) (more_lines inner (field_text ron_fields inner) (guide_ron_field_stops x) (guide_ron_field_next x)
    (string_bytes c.append_required.new.s.out) (string_bytes c.append_required_within.new.s.out)
    (string_bytes c.append_optional_within.new.s.out) (c.in_ok-append_required_within.ensures.ok) (c.in_ok-append_optional_within.ensures.ok)) in
    rw (guide_ron_text c.args.d x)
    (on_ok_weaker c.st_post.result
    (written_between c.args.d inner ((guide_ron_field_name x) ++ ((guide_ron_field_stops x) ++ (guide_ron_field_next x))) before opened
    (string_bytes c.append_optional_within.new.s.out) (string_bytes c.st_post.new.self.out) c.saturating_add-inner.ensures
    c.in_ok-st_pre.ensures.ok row) c.st_post.ensures.ok)
