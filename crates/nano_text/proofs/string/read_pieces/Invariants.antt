use Rattle.std.proofs.Common.{◌≤◌, length, string_bytes, string_capacity}
use Rattle.nano_text.specs.Place.{Moves, text_at}
use Rattle.nano_text.proofs.Strings.{HasRead}
use Rattle.nano_text.proofs.string.read_pieces.Given as goal

abbrev pub invariant-pieces : goal.invariant-pieces
invariant-pieces l = record {
  read : HasRead (text_at l.initial.p l.initial.i) (string_bytes l.strbuf) (text_at l.p l.i);
  place : Moves l.fn.p l.fn.i l.p l.i;
  capacity : string_capacity l.fn.strbuf ≤ string_capacity l.strbuf;
}

abbrev pub decreases-pieces : goal.decreases-pieces
decreases-pieces l = length (text_at l.p l.i)
