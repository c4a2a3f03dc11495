-- Written by derive_files.
use Rattle.nano_schema_levels.proofs.ReadingLaws.{seen_read, seen_none}
use Rattle.nano_ron_nested.proofs.NestedLaws.{none_left, ran_out}
use Rattle.test_nested_shapes.specs.NodeRonCodecs.{trail_ron_at, trail_ron_nested}
use Rattle.test_nested_shapes.proofs.node.derived.LevelsReadsRonTrail.+read.Goals as goal

pub returns-then-left-eq0 : goal.returns-then-left-eq0
returns-then-left-eq0 t c =
    none_left trail_ron_nested c.args.left c.args.input.now c.if-left-eq0.true c.too_deep.ensures

pub returns-in_default : goal.returns-in_default
returns-in_default t c =
    ran_out (trail_ron_at c.args.left).encoding.encodes c.args.input.now c.no_levels.ensures

pub returns-in_default-first : goal.returns-in_default-first
returns-in_default-first t c =
    ran_out (trail_ron_at c.args.left).encoding.encodes c.args.input.now
    c.no_levels-in_default-first.ensures

pub returns-in-Ok : goal.returns-in-Ok
returns-in-Ok t c =
    seen_read trail_ron_nested c.args.left c.if-left-eq0.false c.make.result c.in-Ok.values
    c.make.ensures c.in-Ok.ensures.read

pub returns-in-Err : goal.returns-in-Err
returns-in-Err t c =
    seen_none trail_ron_nested c.args.left c.if-left-eq0.false c.in-Err.ensures.none
