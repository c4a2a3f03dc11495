-- Written by derive_files.
use Rattle.test_nested_shapes.proofs.NodeCodecsLaws.{trail_legal_end, trail_legal_through}
use Rattle.test_nested_shapes.proofs.node.derived.TrailValue.+known.Goals as goal

pub returns-in-End : goal.returns-in-End
returns-in-End t c = rw c.in-End.is trail_legal_end

pub returns-in-Through : goal.returns-in-Through
returns-in-Through t c =
    rw c.in-Through.is (trail_legal_through c.in-Through.first c.in-Through.second c.in-Through.third c.known-in-Through.ensures c.known-in-Through-2.ensures c.known-in-Through-3.ensures)
