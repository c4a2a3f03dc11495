use Rattle.std.proofs.Common.{◌∙◌}
use Rattle.nano_toml.specs.EqImpls.{view_eq_laws}
use Rattle.nano_toml.proofs.laws.eq_is_symmetric.Goals as goal

pub returns : goal.returns
returns c a b e = view_eq_laws.symm b a ∙ e
