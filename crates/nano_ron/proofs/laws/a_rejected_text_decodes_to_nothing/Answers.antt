use Rattle.nano_grammar.proofs.WholeInputs.{text_rejected}
use Rattle.nano_ron.proofs.Ron.{ron_laws}
use Rattle.nano_ron.proofs.laws.a_rejected_text_decodes_to_nothing.Goals as goal

pub returns : goal.returns
returns g c bytes e none known = text_rejected ron_laws g.T.RonCodec.ron.encoding.encodes none known
