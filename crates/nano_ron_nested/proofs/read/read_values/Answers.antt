use Rattle.std.proofs.Common.{refl}
use Rattle.std.proofs.lemmas.Result.{MatchResult-weaker}
use Rattle.nano_grammar.proofs.UserCalls.{values_read, values_not}
use Rattle.nano_ron_schema.specs.FieldCodecs.{ron_fields}
use Rattle.nano_ron_nested.proofs.read.read_values.Goals as goal

pub returns-in-Ok : goal.returns-in-Ok
returns-in-Ok g c =
    let shape = ((g.F.RonFieldsWithin.codec c.args.left).struct).shape in
    MatchResult-weaker c.values.result (c.values.ensures c.args.left)
    (λ values x. values_read ron_fields shape (g.F.RonFieldsWithin.means values) c.in-Ok.ensures x)
    (λ _ x. values_not ron_fields shape ((g.F.RonFieldsWithin.codec c.args.left).struct).laws refl c.in-Ok.ensures x)
