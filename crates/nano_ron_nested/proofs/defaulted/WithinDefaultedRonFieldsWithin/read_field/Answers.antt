use Rattle.std.proofs.Common.{string_bytes, refl}
use Rattle.nano_grammar.proofs.TokenCalls.{passed_on}
use Rattle.nano_grammar.proofs.FieldCalls.{last_read, last_not, looked_up, looked_up_none}
use Rattle.nano_grammar.proofs.FieldCalls.{not_known}
use Rattle.nano_grammar.proofs.FieldReading.{is_this_name, other_name}
use Rattle.nano_ron_tokens.specs.Cut.{Cut}
use Rattle.nano_ron_schema.specs.Reading.{head}
use Rattle.nano_ron_schema.specs.FieldCodecs.{defaulted_field}
use Rattle.nano_ron_nested.proofs.defaulted.WithinDefaultedRonFieldsWithin.read_field.Goals as goal

pub returns-then-ne : goal.returns-then-ne
returns-then-ne g c =
    let name = string_bytes c.args.state.now.identbuf in
    not_known Cut (head name) name (other_name c.as_str.result.now c.text.result.now name g.N.Label.label c.ne.result c.as_str.ensures.value c.text.ensures c.ne.ensures c.if-ne.true) (refl, (refl, refl))

pub returns : goal.returns
returns g c =
    let name = string_bytes c.args.state.now.identbuf in
    let named = is_this_name c.as_str.result.now c.text.result.now name g.N.Label.label c.ne.result c.as_str.ensures.value c.text.ensures c.ne.ensures c.if-ne.false in
    looked_up Cut (head name) name (defaulted_field g.N.Label.label (g.T.NestedRon.at c.args.left) g.D.RonDefaultWithin.missing).struct.shape named (last_read Cut (head name) name named (λ fs h. h) c.in_ok-value.ensures)

pub returns-in_err-value : goal.returns-in_err-value
returns-in_err-value g c =
    let name = string_bytes c.args.state.now.identbuf in
    let named = is_this_name c.as_str.result.now c.text.result.now name g.N.Label.label c.ne.result c.as_str.ensures.value c.text.ensures c.ne.ensures c.if-ne.false in
    passed_on _ _ c.from_residual.result c.from_residual.ensures.1
    (looked_up_none Cut (head name) name (defaulted_field g.N.Label.label (g.T.NestedRon.at c.args.left) g.D.RonDefaultWithin.missing).struct.shape named (last_not Cut (head name) name c.in_err-value.ensures))
