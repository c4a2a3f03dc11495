use Rattle.std.proofs.Common.{[], ◌∷◌, ◌++◌, sym, ◌∙◌, subst}
use Rattle.std.proofs.lemmas.Option.{IfSome_then}
use Rattle.nano_text.specs.Place.{text_at}
use Rattle.nano_text.proofs.PlaceLaws.{moves_append}
use Rattle.nano_grammar.proofs.Plain.{first_has, second_has}
use Rattle.nano_json_tokens.specs.Cut.{Cut}
use Rattle.nano_json_schema.proofs.pairs.Tuple2JsonFields.take_field.Goals as goal

pub returns-then-branch : goal.returns-then-branch
returns-then-branch g c =
    let h = rw c.if-branch.true at c.in_ok-take_field.ensures in (
      first_has Cut c.args.name.now g.A.JsonFields.codec.struct.shape g.B.JsonFields.codec.struct.shape
          (g.B.JsonFields.holds c.args.slots.now.1) _ h.0,
      h.1,
    )

pub returns : goal.returns
returns g c =
    let a = g.A.JsonFields.codec.struct.shape in
    let b = g.B.JsonFields.codec.struct.shape in
    let h = c.in_ok-take_field.ensures in
    let unknown = sym h.0.known_is ∙ c.if-branch.false in
    let same = h.0.unknown c.if-branch.false in
    IfSome_then c.take_field-2.result c.take_field-2.ensures (λ known k. (
      second_has Cut c.args.name.now a b _ (λ i. text_at (same.1 i) (same.2 i)) unknown
          (λ fs f e x. subst (λ s. g.A.JsonFields.holds s (fs ++ f ∷ [])) (sym same.0) (g.met.A.JsonFields.skips c.args.slots.now.0 fs f e x))
          (λ l. ((λ i. (same.0 i, l.0 i)), l.1 ∙ same.1, l.2 ∙ same.2)) k.0,
      moves_append h.1 k.1,
    ))
