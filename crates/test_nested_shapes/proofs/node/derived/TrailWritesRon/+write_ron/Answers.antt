-- Written by derive_files.
use Rattle.test_nested_shapes.proofs.NodeRonCodecsLaws.{trail_ron_text_through}
use Rattle.test_nested_shapes.proofs.node.derived.TrailWritesRon.+write_ron.Goals as goal

pub returns-in-Through-clause-ok : goal.returns-in-Through-clause-ok
returns-in-Through-clause-ok t c =
    rw (c.in-Through.is, trail_ron_text_through c.args.d c.in-Through.first c.in-Through.second c.in-Through.third)
    c.write_triple_within.ensures.ok
