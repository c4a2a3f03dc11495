-- Written by derive_files.
use Rattle.nano_bin_nested.proofs.NestedLaws.{seen_ok, seen_err}
use Rattle.test_nested_derived.specs.RuleCodecs.{rule_nested}
use Rattle.test_nested_derived.proofs.rule.derived.LevelsReadsBinRule.+read.Goals as goal

pub returns-clause-ok : goal.returns-clause-ok
returns-clause-ok t c =
    seen_ok rule_nested _ _ _ c.read_choice_within.result c.read_choice_within.ensures.ok

pub returns-clause-err : goal.returns-clause-err
returns-clause-err t c =
    seen_err rule_nested _ _ _ c.read_choice_within.result c.read_choice_within.ensures.err
