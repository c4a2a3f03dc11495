use Rattle.nano_ron_tokens.specs.Outcomes.{report}
use Rattle.nano_ron_tokens.specs.State.{place_of}
use Rattle.nano_grammar.proofs.AliasCalls.{values_under}
use Rattle.nano_ron_schema.proofs.aliased.AliasedRonFields.values.Goals as goal

pub returns : goal.returns
returns g c =
    let codec = g.F.RonFields.codec in
    values_under g.N.Label.label g.F.Label.label codec.struct.shape (g.F.RonFields.holds c.args.slots) report codec.canonical.means
    (place_of c.args.state.now) c.values.result c.values.ensures
