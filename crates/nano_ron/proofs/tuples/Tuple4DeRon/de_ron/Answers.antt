use Rattle.nano_ron_tokens.proofs.Calling.{ended_read}
use Rattle.nano_ron.proofs.tuples.Tuple4DeRon.de_ron.Goals as goal

pub returns : goal.returns
returns g c = ended_read _ _ _ c.read_quadruple-read.new.input c.end_on_error.ensures c.read_quadruple-read.ensures
