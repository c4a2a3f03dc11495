use Rattle.std.proofs.Common.{◌≡◌, ◌<◌, ◌^◌, MatchOption, sym, subst, rules}
use Rattle.std.specs.Slice.{IsItemAt}
use Rattle.nano_document.specs.Held.{HasNone, IsLast}
use Rattle.nano_document.specs.Pointers.{escaped, LeadsTo}
use Rattle.nano_document.specs.declared.json.Json.{Json}
use Rattle.nano_document.proofs.Pointing.{leads_in_list, item_leads, name_leads, leads_nowhere}
use Rattle.nano_document.proofs.json.Json.inner.Goals as goal

pub returns-in_err-place-in-List : goal.returns-in_err-place-in-List
returns-in_err-place-in-List c =
    subst (λ o. MatchOption o ((y : Json) → LeadsTo c.args.token.now c.args.self.now y → ⊥) (λ y. LeadsTo c.args.token.now c.args.self.now y.now)) (sym c.from_residual.ensures)
    (λ y h. let at = leads_in_list c.args.token.now c.args.self.now c.in-List.items c.in-List.is y h in c.in_err-place-in-List.ensures at.0 at.1 at.2)

pub returns-in_ok-place-in-List : goal.returns-in_ok-place-in-List
returns-in_ok-place-in-List c =
    let place = c.in_ok-place-in-List.field-0 in
    let small : place < 2 ^ 64 = search rules in
    item_leads c.args.token.now c.args.self.now c.in-List.items c.in-List.is place small c.in_ok-place-in-List.ensures c.get.result
    (subst (λ zs. IsItemAt zs place c.get.result) c.deref.ensures.value c.get.ensures.lookup)

pub returns-in-Object : goal.returns-in-Object
returns-in-Object c =
    name_leads c.args.token.now c.args.self.now c.in-Object.entries c.in-Object.is c.last_escaped.result
    (subst (λ es. MatchOption c.last_escaped.result (HasNone (λ n. escaped n ≡ c.args.token.now) es) (λ y. IsLast (λ n. escaped n ≡ c.args.token.now) es y.now)) c.as_slice.ensures.value c.last_escaped.ensures)

pub returns-in_default : goal.returns-in_default
returns-in_default c = λ y h. leads_nowhere c.args.token.now c.args.self.now c.in_default.not-List c.in_default.not-Object y h
