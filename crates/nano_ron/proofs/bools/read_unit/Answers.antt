use Rattle.std.proofs.Common.{[], ◌∷◌, refl}
use Rattle.std.proofs.lemmas.Result.{MatchResult-weaker}
use Rattle.nano_text.proofs.PlaceLaws.{moves_append}
use Rattle.nano_grammar.specs.Faults.{AreTokens}
use Rattle.nano_grammar.proofs.FaultLaws.{Encodes, first_tokens_lead, later_tokens_lead}
use Rattle.nano_grammar.proofs.TokenCalls.{passed_on, none_in, none_first, none_as}
use Rattle.nano_grammar.proofs.TokensLaws.{leaves_append}
use Rattle.nano_ron_tokens.specs.Token.{parens}
use Rattle.nano_ron_tokens.specs.Cut.{Cut}
use Rattle.nano_ron_tokens.specs.State.{at, pending}
use Rattle.nano_ron.specs.ScalarCodecs.{units}
use Rattle.nano_ron.proofs.bools.read_unit.Goals as goal

-- where `()` stands
are_both : Encodes units.encodes (AreTokens (parens.opening ∷ parens.closing ∷ []))
are_both ts m h = (tt, h.one)

pub returns-in_err-paren_open : goal.returns-in_err-paren_open
returns-in_err-paren_open c =
    let Both = AreTokens (parens.opening ∷ parens.closing ∷ []) in
    passed_on _ _ c.from_residual.result c.from_residual.ensures.1
    (none_as Cut units.encodes Both are_both
    (none_first Cut Both (AreTokens (parens.opening ∷ []))
    (first_tokens_lead (parens.opening ∷ []) (parens.closing ∷ []) (pending c.args.state.now))
    c.in_err-paren_open.ensures.fails))

pub returns : goal.returns
returns c =
    let Both = AreTokens (parens.opening ∷ parens.closing ∷ []) in
    let start = at c.args.state.now c.args.input.now in
    let inside = at c.paren_open.new.self c.paren_open.new.i in
    let end = at c.paren_close.new.self c.paren_close.new.i in
    let opened = c.in_ok-paren_open.ensures in
    MatchResult-weaker c.paren_close.result c.paren_close.ensures
    (λ _ x. record {
      decodes = (
        parens.opening ∷ parens.closing ∷ [],
        record { one = refl; is = refl },
        leaves_append Cut (parens.opening ∷ []) (parens.closing ∷ []) start inside end opened.taken x.taken,
      );
      place = moves_append opened.place x.place;
    })
    (λ _ x. none_as Cut units.encodes Both are_both
    (none_in Cut Both (AreTokens (parens.closing ∷ [])) (parens.opening ∷ [])
    (later_tokens_lead (parens.opening ∷ []) (parens.closing ∷ []) inside.token) opened.taken opened.place x.fails))
