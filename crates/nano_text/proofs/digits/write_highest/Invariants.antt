use Rattle.std.proofs.Common.{◌≡◌, ◌+◌, ◌≤◌, ◌++◌, length, drop}
use Rattle.std.specs.Fmt.{decimal}
use Rattle.nano_text.proofs.digits.write_highest.Given as goal

-- the digits of the rest and those that are written are all
abbrev pub invariant-triples : goal.invariant-triples
invariant-triples l = record {
  below : length (decimal l.rest) + 3 ≤ l.at;
  within : l.at ≤ l.end;
  place : l.at + length (decimal l.number) ≡ l.end + length (decimal l.rest);
  written : decimal l.rest ++ drop l.at l.buffer ≡ decimal l.number ++ drop l.end l.fn.buffer;
}

abbrev pub decreases-triples : goal.decreases-triples
decreases-triples l = l.rest
