use Rattle.std.proofs.Common.{subst, sym}
use Rattle.nano_ron.specs.Outcomes.{position, ReadsOrEnds}
use Rattle.nano_ron_nested.proofs.other.read_other.Goals as goal

pub returns : goal.returns
returns g c =
    subst (λ m. ReadsOrEnds g.T.RonCodec.ron.encoding.encodes m
    (position c.args.state.now c.args.input.now) (position c.de_ron.new.state c.de_ron.new.input)
    c.de_ron.result) (sym g.met.T.RonCodec.agrees.means_is) c.de_ron.ensures
