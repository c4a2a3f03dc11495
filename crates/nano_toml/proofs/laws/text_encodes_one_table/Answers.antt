use Rattle.nano_toml.proofs.OneTable.{encodes_one_table}
use Rattle.nano_toml.proofs.laws.text_encodes_one_table.Goals as goal

pub returns : goal.returns
returns c = encodes_one_table
