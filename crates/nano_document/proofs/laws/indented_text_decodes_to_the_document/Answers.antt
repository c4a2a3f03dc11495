use Rattle.nano_document.proofs.Indenting.{indented_decodes}
use Rattle.nano_document.proofs.laws.indented_text_decodes_to_the_document.Goals as goal

pub returns : goal.returns
returns c = λ less. indented_decodes c.args.value.now c.known.ensures less
