use Rattle.nano_toml.proofs.ReadLemmas.{encodes_one}
use Rattle.nano_toml.proofs.laws.text_encodes_one_list.Goals as goal

pub returns : goal.returns
returns c text one other a b = encodes_one text one other a b
