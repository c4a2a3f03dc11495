use Rattle.std.proofs.Common.{arith}
use Rattle.nano_bin_bytes.proofs.CodecLaws.{gather_step}
use Rattle.nano_bin_bytes.proofs.numbers.gather.Goals as goal

pub loop-place-preserved : goal.loop-place-preserved
loop-place-preserved g c =
    gather_step g.T.FixedWidth.as_bytes c.args.numbers.now c.loop-place.bytes c.loop-place.place c.index-numbers-place.result c.to_bytes.result c.loop-place-test.true (omega (arith, c.requires, c.loop-place-test.true)) c.loop-place.invariant c.index-numbers-place.is c.to_bytes.ensures
