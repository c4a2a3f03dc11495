use Rattle.nano_toml.proofs.OneTable.{one_table}
use Rattle.nano_toml.proofs.laws.list_has_one_table.Goals as goal

pub returns : goal.returns
returns c = one_table
