use Rattle.std.proofs.Common.{◌≢◌, [], MatchOption, sym, subst, rules}
use Rattle.nano_document.specs.Pointers.{PointsTo}
use Rattle.nano_document.specs.declared.json.Json.{Json}
use Rattle.nano_document.proofs.Pointing.{points_from, points_only, points_nowhere, leads_once}
use Rattle.nano_document.proofs.json.Json.pointer.Goals as goal

pub returns-in_err-token : goal.returns-in_err-token
returns-in_err-token c =
    let some : c.tokens.rest.now ≢ [] = search rules in
    subst (λ o. MatchOption o ((y : Json) → PointsTo c.args.pointer.now c.args.self.now y → ⊥) (λ y. PointsTo c.args.pointer.now c.args.self.now y.now)) (sym c.from_residual.ensures)
    (λ y h. points_nowhere c.tokens.rest.now c.tokens.at.now y some c.in_err-token.ensures (c.tokens.invariant.1 y h))

pub returns-in_err-at : goal.returns-in_err-at
returns-in_err-at c =
    subst (λ o. MatchOption o ((y : Json) → PointsTo c.args.pointer.now c.args.self.now y → ⊥) (λ y. PointsTo c.args.pointer.now c.args.self.now y.now)) (sym c.from_residual-in_err-at.ensures)
    (λ y h.
    let next = points_only c.tokens.rest.now c.in_ok-token.token.now c.in_ok-token.after.now c.tokens.at.now y c.in_ok-token.ensures (c.tokens.invariant.1 y h) in
    c.in_err-at.ensures next.0 next.1)

pub tokens-preserved : goal.tokens-preserved
tokens-preserved c = (
  λ y h. c.tokens.invariant.0 y (points_from c.tokens.rest.now c.in_ok-token.token.now c.in_ok-token.after.now c.tokens.at.now c.in_ok-at.at.now y c.in_ok-token.ensures c.in_ok-at.ensures h),
  λ y h.
      let next = points_only c.tokens.rest.now c.in_ok-token.token.now c.in_ok-token.after.now c.tokens.at.now y c.in_ok-token.ensures (c.tokens.invariant.1 y h) in
      let same = leads_once c.in_ok-token.token.now c.tokens.at.now next.0 c.in_ok-at.at.now next.1 c.in_ok-at.ensures in
      subst (λ z. PointsTo c.in_ok-token.after.now z y) same next.2,
)
