use Rattle.std.proofs.Common.{[], length}
use Rattle.nano_toml.specs.Data.{no_values, values_view}
use Rattle.nano_toml.specs.Place.{array_prefix, remaining}
use Rattle.nano_toml.specs.Reading.{arrays_view}
use Rattle.nano_toml.proofs.ReadLemmas.{GoesOn}
use Rattle.nano_toml.proofs.statements.Reader.read_array.Given as goal

abbrev pub invariant-tokens : goal.invariant-tokens
invariant-tokens l =
    GoesOn (array_prefix [] no_values) (remaining l.initial.self.cursor) (array_prefix (arrays_view l.outer.items []) (values_view l.here.items)) (remaining l.self.cursor)

abbrev pub decreases-tokens : goal.decreases-tokens
decreases-tokens l = length (remaining l.self.cursor)
