use Rattle.std.proofs.Common.{string_bytes, inr, sym}
use Rattle.nano_grammar.proofs.TokenCalls.{passed_on}
use Rattle.nano_grammar.proofs.FieldCalls.{last_read, last_not}
use Rattle.nano_grammar.proofs.FieldReading.{same_name}
use Rattle.nano_ron_tokens.specs.Cut.{Cut}
use Rattle.nano_ron_schema.specs.Reading.{head}
use Rattle.nano_ron_schema.proofs.aliased.OptionalRonField.read_value.Goals as goal

pub returns : goal.returns
returns g c =
    let name = string_bytes c.args.state.now.identbuf in
    let own = g.N.Label.label in
    let value = rw (sym g.met.T.RonCodec.agrees.means_is) at c.in_ok-value.ensures in
    last_read Cut (head name) own (same_name own) (λ fs h. inr h) value

pub returns-in_err-value : goal.returns-in_err-value
returns-in_err-value g c =
    let name = string_bytes c.args.state.now.identbuf in
    passed_on _ _ c.from_residual.result c.from_residual.ensures.1
    (last_not Cut (head name) g.N.Label.label c.in_err-value.ensures)
