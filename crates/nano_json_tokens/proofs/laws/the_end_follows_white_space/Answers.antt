use Rattle.nano_json_tokens.proofs.Cuts.{end_cut}
use Rattle.nano_json_tokens.proofs.laws.the_end_follows_white_space.Goals as goal

pub returns : goal.returns
returns c = end_cut
