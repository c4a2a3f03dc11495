use Rattle.std.proofs.Common.{ap, ◌∙◌}
use Rattle.nano_toml.specs.Kinds.{as_tables}
use Rattle.nano_toml.specs.Data.{view}
use Rattle.nano_toml.proofs.TableViews.{view-Array}
use Rattle.nano_toml.proofs.value.Toml.into_arr.Goals as goal

pub returns : goal.returns
returns c = ap as_tables (ap view c.in-Array.is ∙ view-Array c.in-Array.tables)
