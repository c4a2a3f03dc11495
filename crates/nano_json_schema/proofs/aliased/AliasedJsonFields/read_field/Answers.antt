use Rattle.std.proofs.Common.{[], sym}
use Rattle.std.proofs.lemmas.Result.{MatchResult-weaker}
use Rattle.nano_grammar.proofs.AliasCalls.{looked_up_under, looked_up_none_under}
use Rattle.nano_json_tokens.specs.Cut.{Cut}
use Rattle.nano_json_schema.proofs.aliased.AliasedJsonFields.read_field.Goals as goal

pub returns : goal.returns
returns g c =
    let shape = g.F.JsonFields.codec.struct.shape in
    let is = sym c.own_name.ensures in
    let known = g.met.F.JsonField.is_known in
    MatchResult-weaker c.read_field.result c.read_field.ensures
    (λ found h. looked_up_under g.N.Label.label g.F.Label.label shape Cut c.args.name.now c.own_name.result.now is [] known h)
    (λ e h. looked_up_none_under g.N.Label.label g.F.Label.label shape Cut c.args.name.now c.own_name.result.now is [] known h)
