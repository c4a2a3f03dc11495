use Rattle.nano_toml.proofs.CutLaws.{cut_in_one_way}
use Rattle.nano_toml.proofs.laws.text_is_cut_in_one_way.Goals as goal

pub returns : goal.returns
returns c = cut_in_one_way
