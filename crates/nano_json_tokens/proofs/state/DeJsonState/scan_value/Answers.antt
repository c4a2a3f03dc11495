use Rattle.std.proofs.Common.{◌≡◌, sym, ◌∙◌, subst, List, ℕ, false, refl}
use Rattle.std.specs.declared.str.Chars.{Chars}
use Rattle.nano_text.proofs.Prefixes.{after_stop}
use Rattle.nano_text.proofs.RemainingText.{first_is-remaining}
use Rattle.nano_text.specs.Place.{remaining}
use Rattle.nano_text.specs.Characters.{following}
use Rattle.nano_text.specs.Characters.{is_space}
use Rattle.nano_json_tokens.specs.Cut.{IsLexeme, Cut}
use Rattle.nano_json_tokens.proofs.Cuts.{lexeme_cut, cut_lexeme}
use Rattle.nano_json_tokens.specs.Breaks.{Breaks, BreaksLexeme}
use Rattle.nano_json_tokens.proofs.Scanning.{scans_as, lexeme_breaks}
use Rattle.nano_json_tokens.proofs.state.DeJsonState.scan_value.Goals as goal

-- where the current character is no white space, none is passed
none_passed : (cur : ℕ) (i : Chars) → is_space cur ≡ false
    → following is_space (remaining cur i) ≡ remaining cur i
none_passed cur i no_space =
    after_stop is_space (remaining cur i) (first_is-remaining is_space cur i refl ∙ no_space)

pub returns-then-starts_value : goal.returns-then-starts_value
returns-then-starts_value c =
    let here = none_passed c.args.self.now.cur c.args.i.now (c.if-starts_value.ensures refl) in
    let text = remaining c.args.self.now.cur c.args.i.now in
    scans_as (λ text token rest. IsLexeme token text rest) Cut BreaksLexeme Breaks c.args.self.now c.take_lexeme.new.self c.args.i.now c.take_lexeme.new.i
    (λ t rest l. lexeme_cut text t rest (subst (λ (s : List ℕ). IsLexeme t s rest) (sym here) l))
    (λ t rest l. subst (λ (s : List ℕ). IsLexeme t s rest) here (cut_lexeme text t rest l))
    (λ rest b. lexeme_breaks text rest (subst (λ (s : List ℕ). BreaksLexeme s rest) (sym here) b)) c.take_lexeme.result c.take_lexeme.ensures
