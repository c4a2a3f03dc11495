-- Written by derive_files.
use Rattle.test_nested_parts.proofs.PlanCodecsLaws.{plan_legal_end, plan_legal_go, plan_legal_choose}
use Rattle.test_nested_parts.proofs.plan.derived.PlanValue.+known.Goals as goal

pub returns-in-End : goal.returns-in-End
returns-in-End t c = rw c.in-End.is plan_legal_end

pub returns-in-Go : goal.returns-in-Go
returns-in-Go t c =
    rw c.in-Go.is (plan_legal_go c.in-Go.first c.in-Go.second c.known-in-Go.ensures c.known-in-Go-2.ensures)

pub returns-in-Choose : goal.returns-in-Choose
returns-in-Choose t c =
    rw c.in-Choose.is (plan_legal_choose c.in-Choose.at c.in-Choose.plans c.known-in-Choose.ensures c.known-in-Choose-2.ensures)
