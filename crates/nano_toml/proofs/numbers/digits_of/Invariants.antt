use Rattle.std.proofs.Common.{◌≡◌, ◌||◌, ◌+◌, Some, drop, length}
use Rattle.nano_toml.specs.Characters.{is_in_digits}
use Rattle.nano_toml.specs.Number.{digits}
use Rattle.nano_toml.specs.Scan.{any_digit}
use Rattle.nano_toml.proofs.OneTable.{value_at}
use Rattle.nano_toml.specs.Token.{prefix}
use Rattle.nano_toml.proofs.numbers.digits_of.Given as goal

abbrev pub invariant-loop-len : goal.invariant-loop-len
invariant-loop-len l = record {
  len : length (prefix is_in_digits l.bytes) ≡ l.len + length (prefix is_in_digits (drop l.len l.bytes));
  any : l.any || any_digit (prefix is_in_digits (drop l.len l.bytes)) ≡ any_digit (prefix is_in_digits l.bytes);
  value : value_at l.value (digits (prefix is_in_digits (drop l.len l.bytes))) ≡ value_at (Some 0) (digits (prefix is_in_digits l.bytes));
}
