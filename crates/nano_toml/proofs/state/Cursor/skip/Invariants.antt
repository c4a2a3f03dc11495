use Rattle.std.proofs.Common.{◌≡◌, false, length}
use Rattle.nano_toml.specs.Place.{remaining}
use Rattle.nano_toml.specs.Scan.{after_gaps}
use Rattle.nano_toml.proofs.state.Cursor.skip.Given as goal

abbrev pub invariant-gaps : goal.invariant-gaps
invariant-gaps l = record {
  rest : after_gaps false (remaining l.self) ≡ after_gaps false (remaining l.fn.self);
}

abbrev pub decreases-gaps : goal.decreases-gaps
decreases-gaps l = length (remaining l.self)
