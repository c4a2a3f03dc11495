-- Written by derive_files.
use Rattle.test_nested_derived.proofs.RuleCodecsLaws.{rule_legal_always, rule_legal_from, rule_legal_when}
use Rattle.test_nested_derived.proofs.rule.derived.RuleValue.+known.Goals as goal

pub returns-in-Always : goal.returns-in-Always
returns-in-Always t c = rw c.in-Always.is rule_legal_always

pub returns-in-From : goal.returns-in-From
returns-in-From t c = rw c.in-From.is (rule_legal_from c.in-From.first c.known-in-From.ensures)

pub returns-in-When : goal.returns-in-When
returns-in-When t c =
    rw c.in-When.is (rule_legal_when c.in-When.condition c.in-When.then c.in-When.otherwise c.known-in-When.ensures c.known-in-When-2.ensures c.known-in-When-3.ensures)
