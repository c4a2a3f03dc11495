-- Written by derive_files.
use Rattle.test_nested_shapes.proofs.TermCodecsLaws.{argument_legal_plain, argument_legal_named, argument_legal_rest, term_legal_number, term_legal_call, term_legal_if, term_legal_repeat}
use Rattle.test_nested_shapes.proofs.term.derived.+known_term.Goals as goal

pub ArgumentValue::known-returns-in-Plain : goal.ArgumentValue::known-returns-in-Plain
ArgumentValue::known-returns-in-Plain t c =
    rw c.in-Plain.is (argument_legal_plain c.in-Plain.first c.known.ensures)

pub ArgumentValue::known-returns-in-Named : goal.ArgumentValue::known-returns-in-Named
ArgumentValue::known-returns-in-Named t c =
    rw c.in-Named.is (argument_legal_named c.in-Named.name c.in-Named.value c.known-in-Named.ensures c.known-in-Named-2.ensures)

pub ArgumentValue::known-returns-in-Rest : goal.ArgumentValue::known-returns-in-Rest
ArgumentValue::known-returns-in-Rest t c = rw c.in-Rest.is argument_legal_rest

pub TermValue::known-returns-in-Number : goal.TermValue::known-returns-in-Number
TermValue::known-returns-in-Number t c =
    rw c.in-Number.is (term_legal_number c.in-Number.first c.known.ensures)

pub TermValue::known-returns-in-Call : goal.TermValue::known-returns-in-Call
TermValue::known-returns-in-Call t c =
    rw c.in-Call.is (term_legal_call c.in-Call.first c.in-Call.second c.known-in-Call.ensures c.known-in-Call-2.ensures)

pub TermValue::known-returns-in-If : goal.TermValue::known-returns-in-If
TermValue::known-returns-in-If t c =
    rw c.in-If.is (term_legal_if c.in-If.first c.in-If.second c.in-If.third c.known-in-If.ensures c.known-in-If-2.ensures c.known-in-If-3.ensures)

pub TermValue::known-returns-in-Repeat : goal.TermValue::known-returns-in-Repeat
TermValue::known-returns-in-Repeat t c =
    rw c.in-Repeat.is (term_legal_repeat c.in-Repeat.first c.in-Repeat.second c.in-Repeat.third c.known-in-Repeat.ensures c.known-in-Repeat-2.ensures c.known-in-Repeat-3.ensures)
