use Rattle.derive_impls.proofs.keys.+part_terms.Given as goal

abbrev pub decreases-part_terms : goal.decreases-part_terms
decreases-part_terms l = l.depth
