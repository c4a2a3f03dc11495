use Rattle.nano_lines.proofs.BlankLemmas.{blank_holds_none}
use Rattle.nano_lines.proofs.laws.a_blank_line_holds_none.Goals as goal

pub returns : goal.returns
returns g c = blank_holds_none g.T.JsonCodec.json.encoding.laws
