use Rattle.std.proofs.Common.{arith, rules}
use Rattle.std.proofs.lemmas.Grind.{common_steps}
use Rattle.nano_bin_frames.proofs.FrameLemmas.{fault_rejects}
use Rattle.nano_bin_frames.proofs.frames.message_of.Goals as goal

pub returns-in-Err-clause-err : goal.returns-in-Err-clause-err
returns-in-Err-clause-err g c = record {
  bad =
      fault_rejects g.T.BinCodec.bin.encoding.encodes c.args.code.now c.in-Err.error c.rejection.result c.rejection.ensures.memory
      c.rejection.ensures.bad c.in-Err.ensures.report c.in-Err.ensures.err c.in-Err.ensures.more c.in-Err.ensures.trailing c.in-Err.ensures.following;
  not_cut = first_of (search rules, grind (arith, common_steps));
}
