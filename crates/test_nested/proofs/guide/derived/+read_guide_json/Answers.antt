-- Written by derive_files.
use Rattle.nano_schema_levels.proofs.ReadingLaws.{seen_read, seen_none}
use Rattle.nano_json_nested.proofs.NestedLaws.{none_left, ran_out}
use Rattle.test_nested.specs.GuideJsonCodecs.{guide_json_at, guide_json_nested}
use Rattle.test_nested.proofs.guide.derived.+read_guide_json.Goals as goal

pub LevelsReadsJsonGuide::read_json-returns-then-left-eq0 : goal.LevelsReadsJsonGuide::read_json-returns-then-left-eq0
LevelsReadsJsonGuide::read_json-returns-then-left-eq0 t c =
    none_left guide_json_nested c.args.left c.args.input.now c.if-left-eq0.true c.too_many_levels.ensures

pub LevelsReadsJsonGuide::read_json-returns-in_default : goal.LevelsReadsJsonGuide::read_json-returns-in_default
LevelsReadsJsonGuide::read_json-returns-in_default t c =
    ran_out (guide_json_at c.args.left).encoding.encodes c.args.input.now c.no_levels.ensures

pub LevelsReadsJsonGuide::read_json-returns-in_default-first : goal.LevelsReadsJsonGuide::read_json-returns-in_default-first
LevelsReadsJsonGuide::read_json-returns-in_default-first t c =
    ran_out (guide_json_at c.args.left).encoding.encodes c.args.input.now
    c.no_levels-in_default-first.ensures

pub LevelsReadsJsonGuide::read_json-returns-in-Ok : goal.LevelsReadsJsonGuide::read_json-returns-in-Ok
LevelsReadsJsonGuide::read_json-returns-in-Ok t c =
    seen_read guide_json_nested c.args.left c.if-left-eq0.false c.make.result c.in-Ok.values
    c.make.ensures c.in-Ok.ensures

pub LevelsReadsJsonGuide::read_json-returns-in-Err : goal.LevelsReadsJsonGuide::read_json-returns-in-Err
LevelsReadsJsonGuide::read_json-returns-in-Err t c =
    seen_none guide_json_nested c.args.left c.if-left-eq0.false c.in-Err.ensures
