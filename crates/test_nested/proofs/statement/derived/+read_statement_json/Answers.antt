-- Written by derive_files.
use Rattle.nano_schema_levels.proofs.ReadingLaws.{seen_read, seen_none}
use Rattle.nano_json_nested.proofs.NestedLaws.{none_left, ran_out}
use Rattle.test_nested.specs.StatementJsonCodecs.{statement_json_at, statement_json_nested}
use Rattle.test_nested.proofs.statement.derived.+read_statement_json.Goals as goal

pub LevelsReadsJsonStatement::read_json-returns-then-left-eq0 : goal.LevelsReadsJsonStatement::read_json-returns-then-left-eq0
LevelsReadsJsonStatement::read_json-returns-then-left-eq0 t c =
    none_left statement_json_nested c.args.left c.args.input.now c.if-left-eq0.true c.too_deep.ensures

pub LevelsReadsJsonStatement::read_json-returns-in_default : goal.LevelsReadsJsonStatement::read_json-returns-in_default
LevelsReadsJsonStatement::read_json-returns-in_default t c =
    ran_out (statement_json_at c.args.left).encoding.encodes c.args.input.now c.no_levels.ensures

pub LevelsReadsJsonStatement::read_json-returns-in_default-first : goal.LevelsReadsJsonStatement::read_json-returns-in_default-first
LevelsReadsJsonStatement::read_json-returns-in_default-first t c =
    ran_out (statement_json_at c.args.left).encoding.encodes c.args.input.now
    c.no_levels-in_default-first.ensures

pub LevelsReadsJsonStatement::read_json-returns-in-Ok : goal.LevelsReadsJsonStatement::read_json-returns-in-Ok
LevelsReadsJsonStatement::read_json-returns-in-Ok t c =
    seen_read statement_json_nested c.args.left c.if-left-eq0.false c.make.result c.in-Ok.values
    c.make.ensures c.in-Ok.ensures.read

pub LevelsReadsJsonStatement::read_json-returns-in-Err : goal.LevelsReadsJsonStatement::read_json-returns-in-Err
LevelsReadsJsonStatement::read_json-returns-in-Err t c =
    seen_none statement_json_nested c.args.left c.if-left-eq0.false c.in-Err.ensures.none
