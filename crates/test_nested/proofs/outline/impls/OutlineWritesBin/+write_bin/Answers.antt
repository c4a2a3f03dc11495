use Rattle.std.proofs.Common.{arith, append_assoc}
use Rattle.std.proofs.lemmas.Grind.{common_steps}
use Rattle.test_nested.proofs.Outlines.{written_fields}
use Rattle.test_nested.proofs.outline.impls.OutlineWritesBin.+write_bin.Goals as goal

pub returns-clause-ok : goal.returns-clause-ok
returns-clause-ok t c = rw (written_fields c.args.self.now) (grind (arith, common_steps, append_assoc))
