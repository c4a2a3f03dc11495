use Rattle.std.proofs.Common.{refl}
use Rattle.std.proofs.lemmas.Result.{MatchResult-weaker}
use Rattle.nano_grammar.proofs.UserCalls.{values_read, values_not}
use Rattle.nano_json_schema.specs.FieldCodecs.{json_fields}
use Rattle.nano_json_nested.proofs.read.read_values.Goals as goal

pub returns-in-Ok : goal.returns-in-Ok
returns-in-Ok g c =
    let codec = g.F.JsonFieldsWithin.codec c.args.left in
    MatchResult-weaker c.values.result (c.values.ensures c.args.left)
    (λ v means. values_read json_fields codec.struct.shape (g.F.JsonFieldsWithin.means v) c.in-Ok.ensures means)
    (λ e none. values_not json_fields codec.struct.shape codec.struct.laws refl c.in-Ok.ensures none)
