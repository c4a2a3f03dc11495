use Rattle.nano_ron_tokens.proofs.Calling.{ended_read}
use Rattle.nano_ron.proofs.slices.ArrayDeRon.de_ron.Goals as goal

pub returns : goal.returns
returns g c = ended_read _ _ _ c.read_array-read.new.input c.end_on_error.ensures c.read_array-read.ensures
