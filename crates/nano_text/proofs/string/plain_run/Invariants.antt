use Rattle.std.proofs.Common.{◌≡◌, ◌+◌, ◌<◌, length, drop}
use Rattle.std.specs.List.{AllWithin}
use Rattle.nano_text.specs.Characters.{prefix}
use Rattle.nano_text.specs.Place.{IsInLine}
use Rattle.nano_text.specs.String.{is_plain}
use Rattle.nano_text.proofs.string.plain_run.Given as goal

abbrev pub invariant-loop-len : goal.invariant-loop-len
invariant-loop-len l = record {
  len : length (prefix is_plain l.bytes) ≡ l.len + length (prefix is_plain (drop l.len l.bytes));
  in_line : l.bits < 128 → AllWithin IsInLine l.bytes 0 l.len;
}
