use Rattle.nano_grammar.proofs.WholeInputs.{one_whole}
use Rattle.nano_json_tokens.specs.Token.{end}
use Rattle.nano_json.proofs.Json.{json_laws}
use Rattle.nano_json.proofs.laws.at_most_one_decodes_whole.Goals as goal

pub returns : goal.returns
returns g c = one_whole json_laws g.T.JsonCodec.json.encoding.laws end
