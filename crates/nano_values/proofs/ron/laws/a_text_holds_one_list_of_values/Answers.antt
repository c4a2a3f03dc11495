use Rattle.nano_values.proofs.ValuesLaws.{one_list}
use Rattle.nano_ron_tokens.specs.Token.{bof}
use Rattle.nano_ron.proofs.Ron.{ron_laws}
use Rattle.nano_values.proofs.RonLemmas.{bof_uncut}
use Rattle.nano_values.proofs.ron.laws.a_text_holds_one_list_of_values.Goals as goal

pub returns : goal.returns
returns g c = one_list ron_laws bof bof_uncut g.T.RonCodec.ron.encoding.laws
