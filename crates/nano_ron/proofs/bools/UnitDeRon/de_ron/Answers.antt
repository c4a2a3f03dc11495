use Rattle.nano_ron_tokens.proofs.Calling.{ended_read}
use Rattle.nano_ron.proofs.bools.UnitDeRon.de_ron.Goals as goal

pub returns : goal.returns
returns c = ended_read _ _ _ c.read_unit-read.new.input c.end_on_error.ensures c.read_unit-read.ensures
