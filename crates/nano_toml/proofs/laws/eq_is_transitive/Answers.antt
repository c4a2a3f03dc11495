use Rattle.nano_toml.specs.EqImpls.{view_eq_laws}
use Rattle.nano_toml.proofs.laws.eq_is_transitive.Goals as goal

pub returns : goal.returns
returns c a b d = view_eq_laws.trans a b d
