use Rattle.nano_json_tokens.proofs.BreaksOnce.{breaks_or_cuts}
use Rattle.nano_json_tokens.proofs.laws.a_text_breaks_or_is_cut.Goals as goal

pub returns : goal.returns
returns c = breaks_or_cuts
