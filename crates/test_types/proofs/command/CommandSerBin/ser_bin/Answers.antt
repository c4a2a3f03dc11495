use Rattle.std.proofs.Common.{arith, append_assoc}
use Rattle.std.proofs.lemmas.Grind.{common_steps}
use Rattle.test_types.proofs.command.CommandSerBin.ser_bin.Goals as goal

pub returns-in_ok-ser_bin-in-Stop-clause-ok : goal.returns-in_ok-ser_bin-in-Stop-clause-ok
returns-in_ok-ser_bin-in-Stop-clause-ok c = rw c.in-Stop.is (grind (arith, common_steps, append_assoc))

pub returns-in_ok-append_part-in-Move-clause-ok : goal.returns-in_ok-append_part-in-Move-clause-ok
returns-in_ok-append_part-in-Move-clause-ok c = rw c.in-Move.is (grind (arith, common_steps, append_assoc))
