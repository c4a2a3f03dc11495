use Rattle.std.proofs.Common.{◌≡◌, ◌+◌, length, drop}
use Rattle.nano_text.specs.Characters.{prefix}
use Rattle.nano_text.specs.Scan.{is_blank}
use Rattle.nano_text.proofs.space.few_blanks.Given as goal

abbrev pub invariant-loop-len : goal.invariant-loop-len
invariant-loop-len l = record {
  len : length (prefix is_blank l.bytes) ≡ l.len + length (prefix is_blank (drop l.len l.bytes));
}
