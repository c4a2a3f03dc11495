use Rattle.std.proofs.lemmas.Bool.Decides.{same_from_decides}
use Rattle.nano_toml.specs.Data.{view, data_eq}
use Rattle.nano_toml.specs.EqImpls.{data_eq-Decides}
use Rattle.nano_toml.proofs.value.TomlPartialEq.eq.Goals as goal

pub returns-clause-value : goal.returns-clause-value
returns-clause-value c = same_from_decides c.same_value.result (data_eq (view c.args.self.now) (view c.args.other.now)) c.same_value.ensures (data_eq-Decides (view c.args.self.now) (view c.args.other.now))

pub returns-clause-same : goal.returns-clause-same
returns-clause-same c = c.same_value.ensures
