use Rattle.std.proofs.Common.{◌≡◌}
use Rattle.derive_source.specs.Place.{line_of, column_of}
use Rattle.derive_source.proofs.place.Place.following.Given as goal

abbrev pub invariant-loop-c : goal.invariant-loop-c
invariant-loop-c l = (l.line ≡ line_of l.yielded) × (l.column ≡ column_of l.yielded)
