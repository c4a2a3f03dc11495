use Rattle.std.proofs.Common.{◌≡◌, ◌+◌, ◌≤◌, count_by, drop, length}
use Rattle.nano_text.specs.Characters.{prefix}
use Rattle.nano_text.specs.Place.{begins_character}
use Rattle.nano_text.specs.String.{is_plain_in_line}
use Rattle.nano_text.proofs.body.last_run.Given as goal

abbrev pub invariant-loop-len : goal.invariant-loop-len
invariant-loop-len l = record {
  len : length (prefix is_plain_in_line l.bytes)
      ≡ l.len + length (prefix is_plain_in_line (drop l.len l.bytes));
  columns : count_by begins_character (prefix is_plain_in_line l.bytes)
      ≡ l.columns + count_by begins_character (prefix is_plain_in_line (drop l.len l.bytes));
  few : l.columns ≤ l.len;
}
