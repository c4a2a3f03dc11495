use Rattle.std.proofs.Common.{string_bytes}
use Rattle.nano_grammar.proofs.TokenCalls.{passed_on}
use Rattle.nano_ron_schema.proofs.Calls.{name_not, enum_read, enum_not}
use Rattle.nano_ron_nested.proofs.choice.read_choice_ron_within.Goals as goal

pub returns-in_err-name : goal.returns-in_err-name
returns-in_err-name g c =
    passed_on _ _ c.from_residual.result c.from_residual.ensures.1
    (name_not (g.V.RonChoicesWithin.encodes c.args.left) c.args.state.now c.args.input.now c.in_err-name.ensures)

pub returns-in-Ok : goal.returns-in-Ok
returns-in-Ok g c =
    (enum_read (g.V.RonChoicesWithin.encodes c.args.left) c.args.state.now c.args.input.now c.read_variant_name.new.state c.read_variant_name.new.input (string_bytes c.in_ok-name.name) c.in_ok-name.ensures c.stands_alone-alone.result
    (rw c.as_str-2.ensures.value at c.in-Ok.ensures))

pub returns : goal.returns
returns g c =
    enum_not (g.V.RonChoicesWithin.encodes c.args.left) c.args.state.now c.args.input.now c.read_variant_name.new.state c.read_variant_name.new.input (string_bytes c.in_ok-name.name) c.in_ok-name.ensures c.stands_alone-alone.result
    (rw c.as_str.ensures.value at (c.stands_alone-alone.ensures c.args.left)) (rw c.as_str-2.ensures.value at c.in-Err.ensures)
