-- Written by derive_files.
use Rattle.nano_schema_levels.proofs.ReadingLaws.{seen_read, seen_none}
use Rattle.nano_json_nested.proofs.NestedLaws.{none_left, ran_out}
use Rattle.test_nested_generics.specs.PlanJsonCodecs.{plan_json_at, plan_json_nested}
use Rattle.test_nested_generics.proofs.plan.derived.LevelsReadsJsonPlan.+read.Goals as goal

pub returns-then-left-eq0 : goal.returns-then-left-eq0
returns-then-left-eq0 g t c =
    none_left (plan_json_nested g.T.JsonCodec.json) c.args.left c.args.input.now c.if-left-eq0.true c.too_deep.ensures

pub returns-in_default : goal.returns-in_default
returns-in_default g t c =
    ran_out ((plan_json_at g.T.JsonCodec.json) c.args.left).encoding.encodes c.args.input.now c.no_levels.ensures

pub returns-in_default-first : goal.returns-in_default-first
returns-in_default-first g t c =
    ran_out ((plan_json_at g.T.JsonCodec.json) c.args.left).encoding.encodes c.args.input.now
    c.no_levels-in_default-first.ensures

pub returns-in-Ok : goal.returns-in-Ok
returns-in-Ok g t c =
    seen_read (plan_json_nested g.T.JsonCodec.json) c.args.left c.if-left-eq0.false c.make.result c.in-Ok.values
    c.make.ensures c.in-Ok.ensures.read

pub returns-in-Err : goal.returns-in-Err
returns-in-Err g t c =
    seen_none (plan_json_nested g.T.JsonCodec.json) c.args.left c.if-left-eq0.false c.in-Err.ensures.none
