use Rattle.nano_json_tokens.proofs.Calling.{ended_read}
use Rattle.nano_document.proofs.FirstFaults.{reads_plainly}
use Rattle.nano_document.proofs.read.JsonDeJson.de_json.Goals as goal

pub returns : goal.returns
returns c = ended_read _ _ _ c.read_json-read.new.input c.end_on_error.ensures
    (reads_plainly _ _ _ _ c.read_json-read.result c.read_json-read.ensures)
