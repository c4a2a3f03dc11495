use Rattle.std.proofs.Common.{◌≡◌, [], string_bytes, length}
use Rattle.nano_toml.specs.Place.{remaining}
use Rattle.nano_toml.specs.Scan.{triple_at, some_quotes}
use Rattle.nano_toml.proofs.state.Cursor.read_triple_string.Given as goal

abbrev pub invariant-pieces : goal.invariant-pieces
invariant-pieces l = record {
  same : triple_at (string_bytes l.text) (some_quotes []) (remaining l.self) ≡ triple_at (string_bytes l.fn.text) (some_quotes []) (remaining l.fn.self);
}

abbrev pub decreases-pieces : goal.decreases-pieces
decreases-pieces l = length (remaining l.self)
