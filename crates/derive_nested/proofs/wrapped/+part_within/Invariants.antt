use Rattle.derive_nested.proofs.wrapped.+part_within.Given as goal

abbrev pub decreases-part_within : goal.decreases-part_within
decreases-part_within l = l.depth
