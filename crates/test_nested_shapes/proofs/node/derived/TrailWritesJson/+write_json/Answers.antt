-- Written by derive_files.
use Rattle.test_nested_shapes.proofs.NodeJsonCodecsLaws.{trail_json_text_through}
use Rattle.test_nested_shapes.proofs.node.derived.TrailWritesJson.+write_json.Goals as goal

pub returns-in-Through-clause-ok : goal.returns-in-Through-clause-ok
returns-in-Through-clause-ok t c =
    rw (c.in-Through.is, trail_json_text_through c.args.d c.in-Through.first c.in-Through.second c.in-Through.third)
    c.write_triple_within.ensures.ok
