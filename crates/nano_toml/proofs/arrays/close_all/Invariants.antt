use Rattle.std.proofs.Common.{◌≡◌, [], vec_len}
use Rattle.nano_toml.specs.Place.{close_all as all_closed}
use Rattle.nano_toml.specs.Reading.{arrays_view}
use Rattle.nano_toml.specs.Data.{values_view}
use Rattle.nano_toml.proofs.arrays.close_all.Given as goal

abbrev pub invariant-arrays : goal.invariant-arrays
invariant-arrays l =
    all_closed (arrays_view l.initial.outer.items []) (values_view l.initial.here.items) ≡ all_closed (arrays_view l.outer.items []) (values_view l.here.items)

abbrev pub decreases-arrays : goal.decreases-arrays
decreases-arrays l = vec_len l.outer
