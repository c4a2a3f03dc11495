use Rattle.nano_text.proofs.BreaksOnce.{number_once}
use Rattle.nano_text.proofs.laws.a_number_breaks_at_one_place.Goals as goal

pub returns : goal.returns
returns c = number_once
