use Rattle.nano_values.proofs.ValuesLaws.{fault_holds_none}
use Rattle.nano_ron_tokens.specs.Token.{bof}
use Rattle.nano_ron.proofs.Ron.{ron_laws}
use Rattle.nano_values.proofs.RonLemmas.{bof_uncut}
use Rattle.nano_values.proofs.ron.laws.a_text_with_a_fault_holds_no_values.Goals as goal

pub returns : goal.returns
returns g c = fault_holds_none ron_laws bof bof_uncut g.T.RonCodec.ron.encoding.laws
