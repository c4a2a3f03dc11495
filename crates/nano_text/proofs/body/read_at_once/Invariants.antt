use Rattle.std.proofs.Common.{◌≡◌, ◌≤◌, length, string_bytes, string_capacity}
use Rattle.nano_text.specs.Place.{held}
use Rattle.nano_text.proofs.Bodies.{IsReadTo, at_column}
use Rattle.nano_text.proofs.body.read_at_once.Given as goal

abbrev pub invariant-runs : goal.invariant-runs
invariant-runs l = record {
  read : IsReadTo (held l.fn.i) l.fn.p (at_column l.fn.p l.col) (string_bytes l.strbuf) l.rest;
  place : l.p ≡ l.fn.p;
  input : l.i ≡ l.fn.i;
  capacity : string_capacity l.fn.strbuf ≤ string_capacity l.strbuf;
}

abbrev pub decreases-runs : goal.decreases-runs
decreases-runs l = length l.rest
