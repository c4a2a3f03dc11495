use Rattle.nano_json_tokens.proofs.Cuts.{cut_one_way}
use Rattle.nano_json_tokens.proofs.laws.a_text_is_cut_in_one_way.Goals as goal

pub returns : goal.returns
returns c = cut_one_way
