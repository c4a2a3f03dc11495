-- Written by derive_files.
use Rattle.nano_bin_nested.proofs.NestedLaws.{seen_ok, seen_err}
use Rattle.test_nested.specs.StatementCodecs.{statement_nested}
use Rattle.test_nested.proofs.statement.derived.+read_statement_bin.Goals as goal

pub LevelsReadsBinStatement::read_bin-returns-clause-ok : goal.LevelsReadsBinStatement::read_bin-returns-clause-ok
LevelsReadsBinStatement::read_bin-returns-clause-ok t c =
    seen_ok statement_nested _ _ _ c.read_choice_within.result c.read_choice_within.ensures.ok

pub LevelsReadsBinStatement::read_bin-returns-clause-err : goal.LevelsReadsBinStatement::read_bin-returns-clause-err
LevelsReadsBinStatement::read_bin-returns-clause-err t c =
    seen_err statement_nested _ _ _ c.read_choice_within.result c.read_choice_within.ensures.err
