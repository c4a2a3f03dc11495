-- Written by derive_files.
use Rattle.test_nested_parts.proofs.CampCodecsLaws.{route_legal_end, route_legal_step}
use Rattle.test_nested_parts.proofs.camp.derived.RouteValue.+known.Goals as goal

pub returns-in-End : goal.returns-in-End
returns-in-End t c = rw c.in-End.is route_legal_end

pub returns-in-Step : goal.returns-in-Step
returns-in-Step t c =
    rw c.in-Step.is (route_legal_step c.in-Step.weather c.in-Step.rest c.known-in-Step.ensures c.known-in-Step-2.ensures)
