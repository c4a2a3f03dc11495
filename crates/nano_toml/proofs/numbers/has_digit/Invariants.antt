use Rattle.std.proofs.Common.{◌≡◌, drop}
use Rattle.nano_toml.specs.Scan.{any_digit}
use Rattle.nano_toml.proofs.numbers.has_digit.Given as goal

abbrev pub invariant-loop-byte : goal.invariant-loop-byte
invariant-loop-byte l = any_digit l.run ≡ any_digit (drop l.byte-index l.byte-items)
