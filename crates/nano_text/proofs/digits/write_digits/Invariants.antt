use Rattle.std.proofs.Common.{◌≡◌, ◌+◌, ◌≤◌, ◌++◌, length, drop}
use Rattle.std.specs.Fmt.{decimal}
use Rattle.nano_text.proofs.digits.write_digits.Given as goal

-- the digits of the rest and those that are written are all
abbrev pub invariant-nines : goal.invariant-nines
invariant-nines l = record {
  below : length (decimal l.rest) + 3 ≤ l.at;
  within : l.at ≤ l.end;
  place : l.at + length (decimal l.number) ≡ l.end + length (decimal l.rest);
  written : decimal l.rest ++ drop l.at l.buffer ≡ decimal l.number ++ drop l.end l.fn.buffer;
}

abbrev pub decreases-nines : goal.decreases-nines
decreases-nines l = l.rest
