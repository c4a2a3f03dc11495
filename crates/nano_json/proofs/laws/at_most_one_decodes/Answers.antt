use Rattle.nano_grammar.proofs.EncodingLaws.{one_decodes}
use Rattle.nano_json.proofs.Json.{json_laws}
use Rattle.nano_json.proofs.laws.at_most_one_decodes.Goals as goal

pub returns : goal.returns
returns g c = one_decodes json_laws g.T.JsonCodec.json.encoding.laws
