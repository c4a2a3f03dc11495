use Rattle.nano_ron_tokens.proofs.Cuts.{end_cut}
use Rattle.nano_ron_tokens.proofs.laws.the_end_follows_gaps.Goals as goal

pub returns : goal.returns
returns c = end_cut
