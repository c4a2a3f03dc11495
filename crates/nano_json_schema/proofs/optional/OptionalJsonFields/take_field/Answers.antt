use Rattle.std.proofs.Common.{refl, sym, ap, ◌∙◌, bytes_eq, inr}
use Rattle.nano_text.proofs.PlaceLaws.{moves_none}
use Rattle.nano_grammar.proofs.Plain.{last_taken, field_found, no_field}
use Rattle.nano_json_tokens.specs.Cut.{Cut}
use Rattle.nano_json_schema.proofs.optional.OptionalJsonFields.take_field.Goals as goal

pub returns-then-eq : goal.returns-then-eq
returns-then-eq g c =
    let name = c.args.name.now in
    let named = ap (bytes_eq name) (sym c.text.ensures) ∙ (sym c.eq.ensures ∙ c.if-eq.true) in
    let value = rw (sym g.met.T.JsonCodec.agrees.means_is) at c.in_ok-slots.ensures in
    (field_found Cut name _ named (last_taken Cut name _ _ named (λ fs h. inr h) value.0), value.1)

pub returns : goal.returns
returns g c =
    let name = c.args.name.now in
    let other = ap (bytes_eq name) (sym c.text.ensures) ∙ (sym c.eq.ensures ∙ c.if-eq.false) in
    (no_field Cut name _ other (refl, refl, refl), moves_none c.args.place.now c.args.input.now)
