use Rattle.std.proofs.Common.{arith, ◌-◌}
use Rattle.nano_levels.proofs.levels.Levels.at_most.Goals as goal

pub loop-count-preserved : goal.loop-count-preserved
loop-count-preserved c =
    let has = c.loop-count.invariant.0 in
    let least = c.loop-count.invariant.1.0 in
    let most = c.loop-count.invariant.1.1 in
    let more = c.loop-count-test.true in (
      c.below-levels.ensures (c.loop-count.count - 1) (omega (arith, has, more)),
      (omega (arith, least, more), omega (arith, most)),
    )

pub returns : goal.returns
returns c =
    let has = c.loop-count.invariant.0 in
    let least = c.loop-count.invariant.1.0 in
    let most = c.loop-count.invariant.1.1 in
    omega (arith, has, least, most, c.loop-count-test.false)
