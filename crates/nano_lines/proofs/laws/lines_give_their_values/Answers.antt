use Rattle.nano_lines.proofs.PromiseLemmas.{written_lines_give}
use Rattle.nano_lines.proofs.laws.lines_give_their_values.Goals as goal

pub returns : goal.returns
returns g c limit stream sound fit are =
    written_lines_give g.T.JsonCodec.json g.T.Value.means g.T.Value.legal g.met.T.JsonCodec.agrees
    c.args.values.now c.known.ensures limit stream sound fit are
