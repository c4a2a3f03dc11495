use Rattle.nano_ron_tokens.proofs.Calling.{ended_read}
use Rattle.nano_ron_nested.proofs.lists.AnyReadsRonVec.read_ron.Goals as goal

pub returns : goal.returns
returns g c = ended_read _ _ _ c.read_items-read.new.input c.end_on_error.ensures c.read_items-read.ensures
