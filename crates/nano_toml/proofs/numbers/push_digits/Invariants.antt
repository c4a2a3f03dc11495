use Rattle.std.proofs.Common.{◌≡◌, ◌++◌, string_bytes, drop}
use Rattle.nano_toml.specs.Number.{digits}
use Rattle.nano_toml.proofs.numbers.push_digits.Given as goal

abbrev pub invariant-loop-byte : goal.invariant-loop-byte
invariant-loop-byte l = string_bytes l.text ++ digits (drop l.byte-index l.byte-items) ≡ string_bytes l.fn.text ++ digits l.run
