use Rattle.nano_toml.proofs.OneError.{error_encodes_no_table}
use Rattle.nano_toml.proofs.laws.text_with_an_error_encodes_no_table.Goals as goal

pub returns : goal.returns
returns c = error_encodes_no_table
