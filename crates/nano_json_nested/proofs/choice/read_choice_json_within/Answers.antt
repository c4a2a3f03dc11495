use Rattle.nano_grammar.proofs.TokenCalls.{passed_on}
use Rattle.nano_json_schema.proofs.Calls.{name_not, enum_read, enum_not}
use Rattle.nano_json_nested.proofs.choice.read_choice_json_within.Goals as goal

pub returns-in_err-name : goal.returns-in_err-name
returns-in_err-name g c =
    let vs = g.V.JsonChoicesWithin.encodes c.args.left in
    passed_on _ _ c.from_residual.result c.from_residual.ensures.1 (name_not vs c.in_err-name.ensures)

pub returns-in-Ok : goal.returns-in-Ok
returns-in-Ok g c =
    let vs = g.V.JsonChoicesWithin.encodes c.args.left in
    (enum_read vs c.in_ok-name.name c.read_variant_name.new.state c.read_variant_name.new.input c.in_ok-name.ensures c.in-Ok.ensures)

pub returns : goal.returns
returns g c =
    let vs = g.V.JsonChoicesWithin.encodes c.args.left in
    enum_not vs c.in_ok-name.name c.read_variant_name.new.state c.read_variant_name.new.input c.in_ok-name.ensures c.in-Err.ensures
