use Rattle.std.proofs.Common.{refl}
use Rattle.std.proofs.lemmas.Result.{MatchResult-weaker}
use Rattle.nano_grammar.proofs.UserCalls.{values_read, values_not}
use Rattle.nano_ron_schema.specs.FieldCodecs.{fields_with}
use Rattle.nano_ron_schema.proofs.read.read_values.Goals as goal

pub returns-in-Ok : goal.returns-in-Ok
returns-in-Ok g c =
    let shape = (g.F.RonFields.codec.struct).shape in
    MatchResult-weaker c.values.result c.values.ensures
    (λ values x. values_read (fields_with g.U.Unknown.after) shape (g.F.RonFields.codec.canonical.means values) c.in-Ok.ensures x)
    (λ _ x. values_not (fields_with g.U.Unknown.after) shape (g.F.RonFields.codec.struct).laws refl c.in-Ok.ensures x)
