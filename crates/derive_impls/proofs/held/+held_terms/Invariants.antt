use Rattle.derive_impls.proofs.held.+held_terms.Given as goal

abbrev pub decreases-held_terms : goal.decreases-held_terms
decreases-held_terms l = l.depth
