-- Written by derive_files.
use Rattle.nano_bin_nested.proofs.NestedLaws.{seen_ok, seen_err}
use Rattle.test_nested_shapes.specs.TermCodecs.{term_nested}
use Rattle.test_nested_shapes.proofs.term.derived.+read_term_bin.Goals as goal

pub LevelsReadsBinTerm::read_bin-returns-clause-ok : goal.LevelsReadsBinTerm::read_bin-returns-clause-ok
LevelsReadsBinTerm::read_bin-returns-clause-ok t c =
    seen_ok term_nested _ _ _ c.read_choice_within.result c.read_choice_within.ensures.ok

pub LevelsReadsBinTerm::read_bin-returns-clause-err : goal.LevelsReadsBinTerm::read_bin-returns-clause-err
LevelsReadsBinTerm::read_bin-returns-clause-err t c =
    seen_err term_nested _ _ _ c.read_choice_within.result c.read_choice_within.ensures.err
