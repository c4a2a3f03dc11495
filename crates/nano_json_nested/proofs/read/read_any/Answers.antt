use Rattle.std.proofs.Common.{None, refl, string_bytes, sym, subst, List, ℕ}
use Rattle.std.proofs.lemmas.Result.{MatchResult-weaker}
use Rattle.nano_grammar.proofs.TokenCalls.{passed_on}
use Rattle.nano_json_tokens.specs.Outcomes.{position}
use Rattle.nano_json_schema.specs.Reading.{TookColon}
use Rattle.nano_json_schema.specs.FieldCodecs.{passed_over}
use Rattle.nano_json_schema.proofs.FieldNames.{colon_taken}
use Rattle.nano_json_schema.proofs.FieldsCalls.{field_taken, value_not}
use Rattle.nano_json_nested.proofs.FieldReaders.{name_not}
use Rattle.nano_json_nested.proofs.read.read_any.Goals as goal

pub returns : goal.returns
returns g c =
    let shape = (g.F.JsonFieldsWithin.codec c.args.left).struct.shape in
    let head =
    subst (λ (n : List ℕ). TookColon None (position c.args.state.now c.args.input.now) (position c.take_name.new.state c.take_name.new.input) n)
    (sym c.as_str.ensures.value) (colon_taken {name = None} (string_bytes c.in_ok-name.name) refl c.in_ok-name.ensures) in
    MatchResult-weaker c.read_named.result c.read_named.ensures
    (λ _ h. field_taken passed_over shape None c.as_str.result.now head h)
    (λ e h. value_not passed_over shape None c.as_str.result.now head h)

pub returns-in_err-name : goal.returns-in_err-name
returns-in_err-name g c =
    passed_on _ _ c.from_residual.result c.from_residual.ensures.1
    (name_not (g.F.JsonFieldsWithin.codec c.args.left).struct.shape c.in_err-name.ensures)
