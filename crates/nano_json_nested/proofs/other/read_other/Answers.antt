use Rattle.std.proofs.Common.{subst, sym}
use Rattle.nano_json.specs.Outcomes.{position, ReadsOrEnds}
use Rattle.nano_json_nested.proofs.other.read_other.Goals as goal

pub returns : goal.returns
returns g c =
    subst (λ m. ReadsOrEnds g.T.JsonCodec.json.encoding.encodes m
    (position c.args.state.now c.args.input.now) (position c.de_json.new.state c.de_json.new.input)
    c.de_json.result) (sym g.met.T.JsonCodec.agrees.means_is) c.de_json.ensures
