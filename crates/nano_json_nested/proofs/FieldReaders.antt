-- What the calls that read named fields come to, where each name is pending.
use Rattle.std.proofs.Common.{List, [], ◌∷◌, ◌++◌, None, refl, sym, ◌∙◌, ap}
use Rattle.nano_grammar.specs.Outcomes.{Position, Report, Took, TookComma, ReadsNone}
use Rattle.nano_grammar.specs.Tokens.{Leaves}
use Rattle.nano_grammar.proofs.FaultLaws.{LeadsTo, first_token}
use Rattle.nano_grammar.proofs.TokenCalls.{none_first}
use Rattle.nano_json_tokens.specs.Breaks.{Breaks}
use Rattle.nano_json_tokens.specs.Cut.{Cut}
use Rattle.nano_json_tokens.specs.Token.{Token, str, colon, comma, curly_open, curly_close}
use Rattle.nano_json_schema.specs.FieldCodecs.{passed_over}
use Rattle.nano_json_schema.specs.Reading.{Shape, AKey, FieldLeft, GoesOn, ReachedName}

module _ {same_buffers : Type 0} {start end : Position Token} where
  -- a field may begin after the opening bracket
  pub opened : Took Cut same_buffers start end (curly_open ∷ [])
      → ReachedName (λ x y. Leaves Cut (curly_open ∷ []) x y) None start end
  opened h = record { here = end.at; reached = h.taken; stands = refl; place = h.place }

  -- and after a comma
  pub went_on : {same : Type 0} → TookComma Cut same_buffers start end comma curly_close same
      → ReachedName GoesOn None start end
  went_on h = record { here = end.at; reached = h.taken; stands = refl; place = h.place }

-- a field begins with its name and a colon
name_leads : (shape : Shape) (pending : Token) → LeadsTo (FieldLeft passed_over None shape) AKey [] pending
name_leads shape pending us more rest next f h is =
    let k = first_token f.value next more in
    let whole = ap (λ (xs : List Token). xs ++ next ∷ more) (sym h.0) ∙ is in
    (str f.name ∷ (colon ∷ []), f.name, k.0, k.1, refl, ap (λ (xs : List Token). str f.name ∷ (colon ∷ xs)) (sym k.2) ∙ whole)

pub name_not : (shape : Shape) {start end : Position Token} {e : Report} → ReadsNone Cut Breaks AKey start end e
    → ReadsNone Cut Breaks (FieldLeft passed_over None shape) start end e
name_not shape {start} bad =
    none_first Cut (FieldLeft passed_over None shape) AKey (name_leads shape start.at.token) bad
