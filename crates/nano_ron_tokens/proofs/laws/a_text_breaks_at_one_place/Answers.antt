use Rattle.nano_ron_tokens.proofs.BreaksOnce.{breaks_once}
use Rattle.nano_ron_tokens.proofs.laws.a_text_breaks_at_one_place.Goals as goal

pub returns : goal.returns
returns c = breaks_once
