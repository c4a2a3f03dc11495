use Rattle.nano_toml.specs.EqImpls.{view_eq_equiv}
use Rattle.nano_toml.proofs.laws.eq_is_reflexive.Goals as goal

pub returns : goal.returns
returns c = view_eq_equiv.refl
