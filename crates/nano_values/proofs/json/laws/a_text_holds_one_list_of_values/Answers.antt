use Rattle.nano_values.proofs.ValuesLaws.{one_list}
use Rattle.nano_json_tokens.specs.Token.{bof}
use Rattle.nano_json.proofs.Json.{json_laws}
use Rattle.nano_values.proofs.JsonLemmas.{bof_uncut}
use Rattle.nano_values.proofs.json.laws.a_text_holds_one_list_of_values.Goals as goal

pub returns : goal.returns
returns g c = one_list json_laws bof bof_uncut g.T.JsonCodec.json.encoding.laws
