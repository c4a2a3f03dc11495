-- Written by derive_files.
use Rattle.nano_meaning.proofs.AgreesLaws.{list_agrees, option_agrees, seen_agrees}
use Rattle.nano_schema_levels.proofs.LegalLevelsLaws.{legal_in_words}
use Rattle.test_nested_generics.proofs.PlanCodecsLaws.{plan_legal_nothing, plan_legal_one, plan_legal_many, plan_legal_both, plan_legal_step}
use Rattle.test_nested_generics.proofs.plan.derived.PlanValue.+known.Goals as goal

pub returns-in-Nothing : goal.returns-in-Nothing
returns-in-Nothing g t c = rw c.in-Nothing.is (plan_legal_nothing g.T.BinCodec.bin)

pub returns-in-One : goal.returns-in-One
returns-in-One g t c =
    rw c.in-One.is ((plan_legal_one g.T.BinCodec.bin) c.in-One.first (legal_in_words g.met.T.BinCodec.agrees c.in-One.first c.known-in-One.ensures))

pub returns-in-Many : goal.returns-in-Many
returns-in-Many g t c =
    rw c.in-Many.is ((plan_legal_many g.T.BinCodec.bin) c.in-Many.first (legal_in_words (seen_agrees (list_agrees g.met.T.BinCodec.agrees) (λ x. x.items)) c.in-Many.first c.known-in-Many.ensures))

pub returns-in-Both : goal.returns-in-Both
returns-in-Both g t c =
    rw c.in-Both.is ((plan_legal_both g.T.BinCodec.bin) c.in-Both.first c.in-Both.second c.known-in-Both.ensures (legal_in_words (option_agrees g.met.T.BinCodec.agrees) c.in-Both.second c.known-in-Both-2.ensures))

pub returns-in-Step : goal.returns-in-Step
returns-in-Step g t c =
    rw c.in-Step.is ((plan_legal_step g.T.BinCodec.bin) c.in-Step.item c.in-Step.next (legal_in_words g.met.T.BinCodec.agrees c.in-Step.item c.known-in-Step.ensures) c.known-in-Step-2.ensures)
