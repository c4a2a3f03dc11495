-- Written by derive_files.
use Rattle.test_nested.proofs.StatementCodecsLaws.{statement_legal_assign, statement_legal_block, statement_legal_if}
use Rattle.test_nested.proofs.statement.derived.+known_statement.Goals as goal

pub StatementValue::known-returns-in-Assign : goal.StatementValue::known-returns-in-Assign
StatementValue::known-returns-in-Assign t c =
    rw c.in-Assign.is (statement_legal_assign c.in-Assign.first c.in-Assign.second c.known.ensures c.known-in-Assign.ensures)

pub StatementValue::known-returns-in-Block : goal.StatementValue::known-returns-in-Block
StatementValue::known-returns-in-Block t c =
    rw c.in-Block.is (statement_legal_block c.in-Block.first c.known-in-Block.ensures)

pub StatementValue::known-returns-in-If : goal.StatementValue::known-returns-in-If
StatementValue::known-returns-in-If t c =
    rw c.in-If.is (statement_legal_if c.in-If.first c.known-in-If.ensures)
