use Rattle.nano_grammar.proofs.EncodingLaws.{one_decodes}
use Rattle.nano_ron.proofs.Ron.{ron_laws}
use Rattle.nano_ron.proofs.laws.at_most_one_decodes.Goals as goal

pub returns : goal.returns
returns g c = one_decodes ron_laws g.T.RonCodec.ron.encoding.laws
