use Rattle.nano_ron_tokens.proofs.Calling.{ended_read}
use Rattle.nano_ron_schema.proofs.read.read_fields_open.Goals as goal

pub returns : goal.returns
returns g c = ended_read _ _ _ c.read_values-read.new.input c.end_on_error.ensures c.read_values-read.ensures
