use Rattle.nano_values.proofs.ValuesLaws.{taken_are_held}
use Rattle.nano_json_tokens.specs.Token.{bof}
use Rattle.nano_json.proofs.Json.{json_laws}
use Rattle.nano_values.proofs.JsonLemmas.{bof_uncut}
use Rattle.nano_values.proofs.json.laws.taken_values_are_those_of_the_text.Goals as goal

pub returns : goal.returns
returns g c = taken_are_held json_laws bof bof_uncut g.T.JsonCodec.json.encoding.laws
