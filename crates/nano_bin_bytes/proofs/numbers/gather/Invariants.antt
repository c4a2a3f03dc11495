-- the numbers so far are gathered
use Rattle.std.proofs.Common.{◌≡◌, map, take}
use Rattle.nano_bin_bytes.proofs.numbers.gather.Given as goal

abbrev pub invariant-loop-place : goal.invariant-loop-place
invariant-loop-place g l = take l.place l.bytes ≡ map g.T.FixedWidth.as_bytes (take l.place l.numbers)
