use Rattle.nano_ron_tokens.proofs.Calling.{ended_read}
use Rattle.nano_ron_schema.proofs.brackets.InBracketsDeRon.de_ron.Goals as goal

pub returns-in-Ok : goal.returns-in-Ok
returns-in-Ok g c = ended_read _ _ _ c.read_brackets-read.new.input c.in-Ok.ensures c.read_brackets-read.ensures

pub returns-in-Err : goal.returns-in-Err
returns-in-Err g c = ended_read _ _ _ c.read_brackets-read.new.input c.in-Err.ensures c.read_brackets-read.ensures
