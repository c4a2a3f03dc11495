use Rattle.std.proofs.lemmas.Result.{MatchResult-weaker}
use Rattle.nano_grammar.proofs.TokenCalls.{passed_on}
use Rattle.nano_json_schema.specs.Reading.{name_bytes}
use Rattle.nano_json_schema.proofs.FieldsCalls.{field_taken, value_not, colon_not}
use Rattle.nano_json_schema.proofs.read.read_any.Goals as goal

pub returns : goal.returns
returns g c =
    let shape = g.F.JsonFields.codec.struct.shape in
    let name = name_bytes c.args.name in
    MatchResult-weaker c.read_named.result c.read_named.ensures
    (λ _ h. field_taken g.U.Unknown.after shape name c.in_ok-name.name.now c.in_ok-name.ensures h)
    (λ e h. value_not g.U.Unknown.after shape name c.in_ok-name.name.now c.in_ok-name.ensures h)

pub returns-in_err-name : goal.returns-in_err-name
returns-in_err-name g c =
    passed_on _ _ c.from_residual.result c.from_residual.ensures.1
    (colon_not g.U.Unknown.after g.F.JsonFields.codec.struct.shape (name_bytes c.args.name) c.in_err-name.ensures)
