-- Written by derive_files.
use Rattle.nano_bin_nested.proofs.NestedLaws.{seen_ok, seen_err}
use Rattle.test_nested_shapes.specs.NodeCodecs.{node_nested}
use Rattle.test_nested_shapes.proofs.node.derived.LevelsReadsBinNode.+read.Goals as goal

pub returns-clause-ok : goal.returns-clause-ok
returns-clause-ok t c =
    seen_ok node_nested _ _ _ c.read_record_within.result c.read_record_within.ensures.ok

pub returns-clause-err : goal.returns-clause-err
returns-clause-err t c =
    seen_err node_nested _ _ _ c.read_record_within.result c.read_record_within.ensures.err
