use Rattle.nano_lines.proofs.PromiseLemmas.{stream_holds_one}
use Rattle.nano_lines.proofs.laws.one_list_at_most.Goals as goal

pub returns : goal.returns
returns g c = stream_holds_one g.T.JsonCodec.json.encoding.laws
