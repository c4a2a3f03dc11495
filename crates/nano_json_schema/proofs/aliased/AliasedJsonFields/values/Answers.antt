use Rattle.nano_json_tokens.specs.Outcomes.{report}
use Rattle.nano_json_tokens.specs.State.{place_of}
use Rattle.nano_grammar.proofs.AliasCalls.{values_under}
use Rattle.nano_json_schema.proofs.aliased.AliasedJsonFields.values.Goals as goal

pub returns : goal.returns
returns g c =
    let codec = g.F.JsonFields.codec in
    values_under g.N.Label.label g.F.Label.label codec.struct.shape (g.F.JsonFields.holds c.args.slots) report codec.canonical.means
    (place_of c.args.state.now) c.values.result c.values.ensures
