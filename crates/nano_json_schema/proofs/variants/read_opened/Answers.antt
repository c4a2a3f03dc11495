use Rattle.std.proofs.Common.{◌≡◌, ℕ, List, [], ◌∷◌, ◌++◌, sym, ◌∙◌, ap, refl, string_bytes}
use Rattle.nano_grammar.specs.Faults.{AreTokens}
use Rattle.nano_grammar.proofs.FaultLaws.{LeadsTo, first_token}
use Rattle.nano_grammar.proofs.TokenCalls.{passed_on, none_in, none_first, taken_both}
use Rattle.nano_json_tokens.specs.Cut.{Cut}
use Rattle.nano_json_tokens.specs.State.{pending}
use Rattle.nano_json_tokens.specs.Token.{Token, str, colon, curly_open}
use Rattle.nano_json_schema.specs.Reading.{OpenedName, AKey}
use Rattle.nano_json_schema.proofs.variants.read_opened.Goals as goal

bracket_leads : (pending : Token) → LeadsTo OpenedName (AreTokens (curly_open ∷ [])) [] pending
bracket_leads pending us more rest next name e is =
    (curly_open ∷ [], tt, str name, colon ∷ next ∷ more, refl, ap (λ (xs : List Token). xs ++ next ∷ more) (sym e) ∙ is)

key_leads : (pending : Token) → LeadsTo OpenedName AKey (curly_open ∷ []) pending
key_leads pending us more rest next name e is =
    let whole = ap (λ (xs : List Token). xs ++ next ∷ more) (sym e) ∙ is in
    let left : str name ∷ colon ∷ next ∷ more ≡ pending ∷ rest = cc whole in
    (str name ∷ (colon ∷ []), name, next, more, refl, left)

pub returns : goal.returns
returns c =
    taken_both Cut (curly_open ∷ []) (str (string_bytes c.in_ok-name.name) ∷ (colon ∷ [])) c.in_ok-curly_open.ensures c.in_ok-name.ensures

pub returns-in_err-curly_open : goal.returns-in_err-curly_open
returns-in_err-curly_open c =
    passed_on _ _ c.from_residual.result c.from_residual.ensures.1
    (none_first Cut OpenedName (AreTokens (curly_open ∷ [])) (bracket_leads (pending c.args.state.now)) c.in_err-curly_open.ensures.fails)

pub returns-in_err-name : goal.returns-in_err-name
returns-in_err-name c =
    passed_on _ _ c.from_residual-in_err-name.result c.from_residual-in_err-name.ensures.1
    (none_in Cut OpenedName AKey (curly_open ∷ []) (key_leads (pending c.curly_open.new.self)) c.in_ok-curly_open.ensures.taken
    c.in_ok-curly_open.ensures.place c.in_err-name.ensures)
