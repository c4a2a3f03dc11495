-- Written by derive_files.
use Rattle.nano_bin_nested.proofs.NestedLaws.{seen_ok, seen_err}
use Rattle.test_nested_shapes.specs.NodeCodecs.{trail_nested}
use Rattle.test_nested_shapes.proofs.node.derived.LevelsReadsBinTrail.+read.Goals as goal

pub returns-clause-ok : goal.returns-clause-ok
returns-clause-ok t c =
    seen_ok trail_nested _ _ _ c.read_choice_within.result c.read_choice_within.ensures.ok

pub returns-clause-err : goal.returns-clause-err
returns-clause-err t c =
    seen_err trail_nested _ _ _ c.read_choice_within.result c.read_choice_within.ensures.err
