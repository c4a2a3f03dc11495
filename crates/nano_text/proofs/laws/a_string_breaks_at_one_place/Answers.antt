use Rattle.nano_text.proofs.BreaksOnce.{string_once}
use Rattle.nano_text.proofs.laws.a_string_breaks_at_one_place.Goals as goal

pub returns : goal.returns
returns c = string_once
