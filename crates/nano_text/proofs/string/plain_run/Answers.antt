use Rattle.std.proofs.Common.{arith}
use Rattle.std.proofs.lemmas.Grind.{common_steps}
use Rattle.nano_text.proofs.InLine.{in_line_more}
use Rattle.nano_text.proofs.string.plain_run.Goals as goal

pub loop-len-preserved : goal.loop-len-preserved
loop-len-preserved c = record {
  len = grind (arith, common_steps);
  in_line = λ low. in_line_more c.loop-len.bits c.loop-len.len c.args.bytes.now c.loop-len-test.true (c.type_inv.bytes c.loop-len.len).fits c.loop-len.invariant.in_line low;
}
