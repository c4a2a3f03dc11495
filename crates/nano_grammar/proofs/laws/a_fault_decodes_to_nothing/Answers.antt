use Rattle.nano_grammar.proofs.FaultLaws.{faults_decode_to_nothing}
use Rattle.nano_grammar.proofs.laws.a_fault_decodes_to_nothing.Goals as goal

pub returns : goal.returns
returns g c = faults_decode_to_nothing g.F.AnyCodec.cut g.F.AnyCodec.encodes
