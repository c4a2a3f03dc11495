use Rattle.nano_grammar.proofs.WholeInputs.{one_whole}
use Rattle.nano_ron_tokens.specs.Token.{end}
use Rattle.nano_ron.proofs.Ron.{ron_laws}
use Rattle.nano_ron.proofs.laws.at_most_one_decodes_whole.Goals as goal

pub returns : goal.returns
returns g c = one_whole ron_laws g.T.RonCodec.ron.encoding.laws end
