use Rattle.std.proofs.Common.{◌≡◌, ap, sym, subst, refl, string_bytes, rules}
use Rattle.std.proofs.lemmas.Result.{MatchResult-weaker}
use Rattle.nano_grammar.proofs.TokenCalls.{took, rejects_next, rejects_here}
use Rattle.nano_grammar.proofs.FaultLaws.{goes_wrong, stopped_here}
use Rattle.nano_json_tokens.specs.Cut.{Cut}
use Rattle.nano_json_tokens.specs.Outcomes.{position, AString}
use Rattle.nano_json_tokens.specs.State.{token_of, pending}
use Rattle.nano_json_tokens.specs.Token.{str, IsStr}
use Rattle.nano_json_tokens.proofs.state.DeJsonState.string.Goals as goal

pub returns-in-Str : goal.returns-in-Str
returns-in-Str c =
    let s = c.args.self.now in
    let is = ap (λ t. token_of t (string_bytes s.strbuf) (string_bytes s.numbuf)) c.in-Str.is in
    MatchResult-weaker c.next_tok.result c.next_tok.ensures (λ _ x. (string_bytes s.strbuf, took (str (string_bytes s.strbuf)) is x))
    (λ _ x. rejects_next (subst IsStr (sym is) tt) (λ f. stopped_here Cut AString refl (λ v e. absurd (cc e)) f) x)

pub returns-in_default : goal.returns-in_default
returns-in_default c =
    let other : IsStr (pending c.args.self.now) → ⊥ = search rules in
    rejects_here other (goes_wrong Cut AString (position c.args.self.now c.args.i.now) refl (λ v e. absurd (cc e))
    (λ ts bytes e. let same : pending c.args.self.now ≡ str bytes = cc e in other (subst IsStr (sym same) tt)))
    (refl, refl) c.err_token.ensures
