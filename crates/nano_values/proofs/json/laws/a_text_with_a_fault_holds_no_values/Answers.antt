use Rattle.nano_values.proofs.ValuesLaws.{fault_holds_none}
use Rattle.nano_json_tokens.specs.Token.{bof}
use Rattle.nano_json.proofs.Json.{json_laws}
use Rattle.nano_values.proofs.JsonLemmas.{bof_uncut}
use Rattle.nano_values.proofs.json.laws.a_text_with_a_fault_holds_no_values.Goals as goal

pub returns : goal.returns
returns g c = fault_holds_none json_laws bof bof_uncut g.T.JsonCodec.json.encoding.laws
