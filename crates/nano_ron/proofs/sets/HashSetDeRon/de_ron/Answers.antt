use Rattle.nano_ron_tokens.proofs.Calling.{ended_read}
use Rattle.nano_ron.proofs.sets.HashSetDeRon.de_ron.Goals as goal

pub returns : goal.returns
returns g c = ended_read _ _ _ c.read_list-read.new.input c.end_on_error.ensures c.read_list-read.ensures
