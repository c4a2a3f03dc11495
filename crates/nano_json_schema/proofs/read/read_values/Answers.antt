use Rattle.std.proofs.Common.{refl}
use Rattle.std.proofs.lemmas.Result.{MatchResult-weaker}
use Rattle.nano_grammar.proofs.UserCalls.{values_read, values_not}
use Rattle.nano_json_schema.specs.FieldCodecs.{fields_with}
use Rattle.nano_json_schema.proofs.read.read_values.Goals as goal

pub returns-in-Ok : goal.returns-in-Ok
returns-in-Ok g c =
    let codec = g.F.JsonFields.codec in
    MatchResult-weaker c.values.result c.values.ensures
    (λ v means. values_read (fields_with g.U.Unknown.after) codec.struct.shape (codec.canonical.means v) c.in-Ok.ensures means)
    (λ e none. values_not (fields_with g.U.Unknown.after) codec.struct.shape codec.struct.laws refl c.in-Ok.ensures none)
