use Rattle.nano_values.proofs.ValuesLaws.{taken_are_held}
use Rattle.nano_ron_tokens.specs.Token.{bof}
use Rattle.nano_ron.proofs.Ron.{ron_laws}
use Rattle.nano_values.proofs.RonLemmas.{bof_uncut}
use Rattle.nano_values.proofs.ron.laws.taken_values_are_those_of_the_text.Goals as goal

pub returns : goal.returns
returns g c = taken_are_held ron_laws bof bof_uncut g.T.RonCodec.ron.encoding.laws
