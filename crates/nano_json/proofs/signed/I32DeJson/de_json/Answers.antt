use Rattle.nano_json_tokens.proofs.Calling.{ended_read}
use Rattle.nano_json.proofs.signed.I32DeJson.de_json.Goals as goal

pub returns : goal.returns
returns c = ended_read _ _ _ c.read_signed-read.new.input c.end_on_error.ensures c.read_signed-read.ensures
