use Rattle.std.proofs.Common.{◌≡◌, false, string_bytes, length}
use Rattle.nano_toml.specs.Place.{remaining}
use Rattle.nano_toml.specs.Scan.{short_at}
use Rattle.nano_toml.proofs.state.Cursor.read_short_string.Given as goal

abbrev pub invariant-pieces : goal.invariant-pieces
invariant-pieces l = record {
  same : short_at (string_bytes l.text) false (remaining l.self) ≡ short_at (string_bytes l.fn.text) false (remaining l.fn.self);
}

abbrev pub decreases-pieces : goal.decreases-pieces
decreases-pieces l = length (remaining l.self)
