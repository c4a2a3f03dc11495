-- Written by derive_files.
use Rattle.nano_schema_levels.proofs.ReadingLaws.{seen_read, seen_none}
use Rattle.nano_ron_nested.proofs.NestedLaws.{none_left, ran_out}
use Rattle.test_nested.specs.StatementRonCodecs.{statement_ron_at, statement_ron_nested}
use Rattle.test_nested.proofs.statement.derived.+read_statement_ron.Goals as goal

pub LevelsReadsRonStatement::read_ron-returns-then-left-eq0 : goal.LevelsReadsRonStatement::read_ron-returns-then-left-eq0
LevelsReadsRonStatement::read_ron-returns-then-left-eq0 t c =
    none_left statement_ron_nested c.args.left c.args.input.now c.if-left-eq0.true c.too_deep.ensures

pub LevelsReadsRonStatement::read_ron-returns-in_default : goal.LevelsReadsRonStatement::read_ron-returns-in_default
LevelsReadsRonStatement::read_ron-returns-in_default t c =
    ran_out (statement_ron_at c.args.left).encoding.encodes c.args.input.now c.no_levels.ensures

pub LevelsReadsRonStatement::read_ron-returns-in_default-first : goal.LevelsReadsRonStatement::read_ron-returns-in_default-first
LevelsReadsRonStatement::read_ron-returns-in_default-first t c =
    ran_out (statement_ron_at c.args.left).encoding.encodes c.args.input.now
    c.no_levels-in_default-first.ensures

pub LevelsReadsRonStatement::read_ron-returns-in-Ok : goal.LevelsReadsRonStatement::read_ron-returns-in-Ok
LevelsReadsRonStatement::read_ron-returns-in-Ok t c =
    seen_read statement_ron_nested c.args.left c.if-left-eq0.false c.make.result c.in-Ok.values
    c.make.ensures c.in-Ok.ensures.read

pub LevelsReadsRonStatement::read_ron-returns-in-Err : goal.LevelsReadsRonStatement::read_ron-returns-in-Err
LevelsReadsRonStatement::read_ron-returns-in-Err t c =
    seen_none statement_ron_nested c.args.left c.if-left-eq0.false c.in-Err.ensures.none
