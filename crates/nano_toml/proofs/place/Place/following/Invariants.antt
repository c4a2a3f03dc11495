use Rattle.std.proofs.Common.{◌≡◌}
use Rattle.nano_toml.specs.Place.{line_of, column_of}
use Rattle.nano_toml.proofs.place.Place.following.Given as goal

abbrev pub invariant-loop-c : goal.invariant-loop-c
invariant-loop-c l = (l.line ≡ line_of l.yielded) × (l.col ≡ column_of l.yielded)
