use Rattle.nano_grammar.proofs.FaultLaws.{nothing_goes_past}
use Rattle.nano_grammar.proofs.laws.nothing_goes_past_a_fault.Goals as goal

pub returns : goal.returns
returns g c = nothing_goes_past g.F.AnyCodec.cut g.F.AnyCodec.encodes
