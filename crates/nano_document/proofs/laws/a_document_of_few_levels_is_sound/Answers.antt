use Rattle.nano_document.proofs.Sound.{below_limit}
use Rattle.nano_document.proofs.laws.a_document_of_few_levels_is_sound.Goals as goal

pub returns : goal.returns
returns c = below_limit
