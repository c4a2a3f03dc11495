-- Written by derive_files.
use Rattle.std.proofs.Common.{append_assoc, rules}
use Rattle.test_nested_generics.proofs.PlanCodecsLaws.{plan_written_nothing, plan_written_one, plan_written_many, plan_written_both, plan_written_step}
use Rattle.test_nested_generics.proofs.plan.derived.PlanWritesBin.+write_bin.Goals as goal

pub returns-in-Nothing-clause-ok : goal.returns-in-Nothing-clause-ok
returns-in-Nothing-clause-ok g t c =
    rw (c.in-Nothing.is, (plan_written_nothing g.T.BinCodec.bin))
    c.append_variant.ensures.ok

pub returns-in-One-clause-ok : goal.returns-in-One-clause-ok
returns-in-One-clause-ok g t c =
    rw (c.in-One.is, (plan_written_one g.T.BinCodec.bin) c.in-One.first)
    c.append_variant-in-One.ensures.ok

pub returns-in-Many-clause-ok : goal.returns-in-Many-clause-ok
returns-in-Many-clause-ok g t c =
    rw (c.in-Many.is, (plan_written_many g.T.BinCodec.bin) c.in-Many.first)
    c.append_variant-in-Many.ensures.ok

pub returns-in_ok-append_variant_within-in-Both-clause-ok : goal.returns-in_ok-append_variant_within-in-Both-clause-ok
returns-in_ok-append_variant_within-in-Both-clause-ok g t c =
    rw (c.in-Both.is, (plan_written_both g.T.BinCodec.bin) c.in-Both.first c.in-Both.second)
    (search (rules, append_assoc))

pub returns-in_ok-append_variant-in-Step-clause-ok : goal.returns-in_ok-append_variant-in-Step-clause-ok
returns-in_ok-append_variant-in-Step-clause-ok g t c =
    rw (c.in-Step.is, (plan_written_step g.T.BinCodec.bin) c.in-Step.item c.in-Step.next)
    (search (rules, append_assoc))
