use Rattle.nano_grammar.proofs.WholeInputs.{text_rejected}
use Rattle.nano_json.proofs.Json.{json_laws}
use Rattle.nano_json.proofs.laws.a_rejected_text_decodes_to_nothing.Goals as goal

pub returns : goal.returns
returns g c bytes e none known = text_rejected json_laws g.T.JsonCodec.json.encoding.encodes none known
