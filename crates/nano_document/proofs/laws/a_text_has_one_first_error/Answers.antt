use Rattle.nano_document.specs.DocumentCodecs.{level_codec}
use Rattle.nano_document.proofs.FirstErrors.{one_first_error}
use Rattle.nano_document.proofs.laws.a_text_has_one_first_error.Goals as goal

pub returns : goal.returns
returns c levels bytes = one_first_error (level_codec levels).encoding.encodes bytes
