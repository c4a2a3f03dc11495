use Rattle.std.proofs.Common.{◌≡◌, ap, sym, subst, refl, string_bytes, rules}
use Rattle.std.proofs.lemmas.Result.{MatchResult-weaker}
use Rattle.nano_grammar.proofs.TokenCalls.{took, rejects_next, rejects_here}
use Rattle.nano_grammar.proofs.FaultLaws.{goes_wrong, stopped_here}
use Rattle.nano_ron_tokens.specs.Cut.{Cut}
use Rattle.nano_ron_tokens.specs.Outcomes.{position, AnIdent}
use Rattle.nano_ron_tokens.specs.State.{token_of, pending}
use Rattle.nano_ron_tokens.specs.Token.{ident, IsIdent}
use Rattle.nano_ron_tokens.proofs.state.DeRonState.ident.Goals as goal

pub returns-in-Ident : goal.returns-in-Ident
returns-in-Ident c =
    let s = c.args.self.now in
    let is = ap (λ t. token_of t (string_bytes s.strbuf) (string_bytes s.numbuf) (string_bytes s.identbuf)) c.in-Ident.is in
    MatchResult-weaker c.next_tok.result c.next_tok.ensures (λ _ x. (string_bytes s.identbuf, took (ident (string_bytes s.identbuf)) is x))
    (λ _ x. rejects_next (subst IsIdent (sym is) tt) (λ f. stopped_here Cut AnIdent refl (λ v e. absurd (cc e)) f) x)

pub returns-in_default : goal.returns-in_default
returns-in_default c =
    let other : IsIdent (pending c.args.self.now) → ⊥ = search rules in
    rejects_here other (goes_wrong Cut AnIdent (position c.args.self.now c.args.i.now) refl (λ v e. absurd (cc e))
    (λ ts name e. let same : pending c.args.self.now ≡ ident name = cc e in other (subst IsIdent (sym same) tt)))
    (refl, refl) c.err_token.ensures
