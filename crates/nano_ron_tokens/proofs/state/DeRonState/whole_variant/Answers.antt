use Rattle.std.proofs.Common.{sym, [], ◌∷◌}
use Rattle.std.proofs.lemmas.Result.{MatchResult-weaker}
use Rattle.nano_grammar.proofs.TokenCalls.{passed_on}
use Rattle.nano_ron_tokens.specs.State.{pending}
use Rattle.nano_ron_tokens.proofs.BracketTokens.{paren_open_is, paren_open_not, word_scalar}
use Rattle.nano_ron_tokens.proofs.SkippedCalls.{one_not, word_taken, content_taken, content_not}
use Rattle.nano_ron_tokens.proofs.state.DeRonState.whole_variant.Goals as goal

pub returns-in_err-next_tok : goal.returns-in_err-next_tok
returns-in_err-next_tok c =
    let old = c.args.self.now in
    passed_on _ _ c.from_residual.result c.from_residual.ensures.1
    (one_not old c.next_tok.new.self c.args.i.now c.next_tok.new.i (word_scalar (pending old) c.requires) c.in_err-next_tok.ensures)

pub returns-then-is_paren_open : goal.returns-then-is_paren_open
returns-then-is_paren_open c =
    let old = c.args.self.now in
    let mid = c.next_tok.new.self in
    let new = c.whole_brackets.new.self in
    let i = c.args.i.now in
    let j = c.next_tok.new.i in
    let k = c.whole_brackets.new.i in
    let h = c.in_ok-next_tok.ensures in
    let opening = paren_open_is (pending mid) (sym c.if-is_paren_open.ensures) in
    MatchResult-weaker c.whole_brackets.result c.whole_brackets.ensures
    (λ _ x. (pending old ∷ x.0, content_taken old mid new i j k c.requires opening h x.0 x.1))
    (λ _ x. content_not old mid new i j k c.requires opening h x)

pub returns : goal.returns
returns c =
    let old = c.args.self.now in
    let new = c.next_tok.new.self in
    let other = paren_open_not (pending new) (sym c.if-is_paren_open.ensures) in
    (pending old ∷ [], word_taken old new c.args.i.now c.next_tok.new.i c.requires other c.in_ok-next_tok.ensures)
