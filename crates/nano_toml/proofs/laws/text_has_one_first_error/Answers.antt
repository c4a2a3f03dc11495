use Rattle.nano_toml.proofs.OneError.{one_first_error}
use Rattle.nano_toml.proofs.laws.text_has_one_first_error.Goals as goal

pub returns : goal.returns
returns c = one_first_error
