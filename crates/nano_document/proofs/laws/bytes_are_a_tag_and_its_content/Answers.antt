use Rattle.nano_document.proofs.BinReading.{encodes_document, document_encodes}
use Rattle.nano_document.proofs.laws.bytes_are_a_tag_and_its_content.Goals as goal

pub returns : goal.returns
returns c = λ bytes m. (encodes_document bytes m, document_encodes bytes m)
