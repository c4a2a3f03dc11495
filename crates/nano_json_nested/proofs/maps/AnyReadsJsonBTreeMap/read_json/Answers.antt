use Rattle.nano_json_tokens.proofs.Calling.{ended_read}
use Rattle.nano_json_nested.proofs.maps.AnyReadsJsonBTreeMap.read_json.Goals as goal

pub returns : goal.returns
returns g c = ended_read _ _ _ c.read_entries-read.new.input c.end_on_error.ensures c.read_entries-read.ensures
