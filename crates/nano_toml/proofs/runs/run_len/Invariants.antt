use Rattle.std.proofs.Common.{◌≡◌, ◌+◌, ℕ, Bool, length, drop}
use Rattle.nano_toml.specs.Token.{prefix, IsTest}
use Rattle.nano_toml.proofs.runs.run_len.Given as goal

abbrev pub invariant-loop-len : goal.invariant-loop-len
invariant-loop-len g l = (p : ℕ → Bool) → IsTest (goal.F-post g l.test) p → length (prefix p l.bytes) ≡ l.len + length (prefix p (drop l.len l.bytes))
