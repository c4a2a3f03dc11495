-- Written by derive_files.
use Rattle.nano_schema_levels.proofs.ReadingLaws.{seen_read, seen_none}
use Rattle.nano_ron_nested.proofs.NestedLaws.{none_left, ran_out}
use Rattle.test_nested.specs.GuideRonCodecs.{guide_ron_at, guide_ron_nested}
use Rattle.test_nested.proofs.guide.derived.+read_guide_ron.Goals as goal

pub LevelsReadsRonGuide::read_ron-returns-then-left-eq0 : goal.LevelsReadsRonGuide::read_ron-returns-then-left-eq0
LevelsReadsRonGuide::read_ron-returns-then-left-eq0 t c =
    none_left guide_ron_nested c.args.left c.args.input.now c.if-left-eq0.true c.too_many_levels.ensures

pub LevelsReadsRonGuide::read_ron-returns-in_default : goal.LevelsReadsRonGuide::read_ron-returns-in_default
LevelsReadsRonGuide::read_ron-returns-in_default t c =
    ran_out (guide_ron_at c.args.left).encoding.encodes c.args.input.now c.no_levels.ensures

pub LevelsReadsRonGuide::read_ron-returns-in_default-first : goal.LevelsReadsRonGuide::read_ron-returns-in_default-first
LevelsReadsRonGuide::read_ron-returns-in_default-first t c =
    ran_out (guide_ron_at c.args.left).encoding.encodes c.args.input.now
    c.no_levels-in_default-first.ensures

pub LevelsReadsRonGuide::read_ron-returns-in-Ok : goal.LevelsReadsRonGuide::read_ron-returns-in-Ok
LevelsReadsRonGuide::read_ron-returns-in-Ok t c =
    seen_read guide_ron_nested c.args.left c.if-left-eq0.false c.make.result c.in-Ok.values
    c.make.ensures c.in-Ok.ensures

pub LevelsReadsRonGuide::read_ron-returns-in-Err : goal.LevelsReadsRonGuide::read_ron-returns-in-Err
LevelsReadsRonGuide::read_ron-returns-in-Err t c =
    seen_none guide_ron_nested c.args.left c.if-left-eq0.false c.in-Err.ensures
