use Rattle.derive_syntax.proofs.nested.+part_within.Given as goal

abbrev pub decreases-part_within : goal.decreases-part_within
decreases-part_within l = l.depth
