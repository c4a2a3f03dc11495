-- the bytes so far are white space
use Rattle.std.proofs.Common.{ℕ, ◌≡◌, ◌<◌, true, get_or}
use Rattle.nano_text.specs.Characters.{is_space}
use Rattle.nano_lines.proofs.line.is_blank.Given as goal

abbrev pub invariant-bytes : goal.invariant-bytes
invariant-bytes l = (k : ℕ) → k < l.byte-index → is_space (get_or l.bytes k 0) ≡ true
