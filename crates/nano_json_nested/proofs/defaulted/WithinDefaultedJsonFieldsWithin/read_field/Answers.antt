use Rattle.std.proofs.Common.{[], refl}
use Rattle.nano_grammar.proofs.TokenCalls.{passed_on}
use Rattle.nano_grammar.proofs.FieldCalls.{at_once, not_at_once, last_read, last_not, looked_up}
use Rattle.nano_grammar.proofs.FieldCalls.{looked_up_none, not_known}
use Rattle.nano_grammar.proofs.FieldReading.{is_this_name, other_name}
use Rattle.nano_json_tokens.specs.Cut.{Cut}
use Rattle.nano_json_schema.specs.FieldCodecs.{defaulted_field}
use Rattle.nano_json_nested.proofs.defaulted.WithinDefaultedJsonFieldsWithin.read_field.Goals as goal

pub returns-then-ne : goal.returns-then-ne
returns-then-ne g c =
    not_known Cut [] c.args.name.now (other_name c.args.name.now c.text.result.now c.args.name.now g.N.Label.label c.ne.result refl c.text.ensures c.ne.ensures c.if-ne.true) (refl, (refl, refl))

pub returns : goal.returns
returns g c =
    let name = c.args.name.now in
    let named = is_this_name name c.text.result.now name g.N.Label.label c.ne.result refl c.text.ensures c.ne.ensures c.if-ne.false in
    let value = c.in_ok-value.ensures in
    looked_up Cut [] name (defaulted_field g.N.Label.label (g.T.NestedJson.at c.args.left) g.D.JsonDefaultWithin.missing).struct.shape named (last_read Cut [] name named (λ fs h. h) (at_once Cut value))

pub returns-in_err-value : goal.returns-in_err-value
returns-in_err-value g c =
    let name = c.args.name.now in
    let named = is_this_name name c.text.result.now name g.N.Label.label c.ne.result refl c.text.ensures c.ne.ensures c.if-ne.false in
    passed_on _ _ c.from_residual.result c.from_residual.ensures.1
    (looked_up_none Cut [] name (defaulted_field g.N.Label.label (g.T.NestedJson.at c.args.left) g.D.JsonDefaultWithin.missing).struct.shape named (last_not Cut [] name (not_at_once Cut c.in_err-value.ensures.fails)))
