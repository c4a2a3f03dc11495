use Rattle.std.proofs.Common.{sym, ◌∙◌, refl, inl, [], ◌∷◌}
use Rattle.std.proofs.lemmas.Result.{MatchResult-weaker}
use Rattle.nano_grammar.proofs.FaultLaws.{goes_wrong}
use Rattle.nano_grammar.proofs.TokenCalls.{fails_here}
use Rattle.nano_ron_tokens.specs.Cut.{Cut}
use Rattle.nano_ron_tokens.specs.Outcomes.{position}
use Rattle.nano_ron_tokens.specs.Skipped.{Skips}
use Rattle.nano_ron_tokens.specs.State.{pending}
use Rattle.nano_ron_tokens.proofs.BracketCounts.{skipped_some, skipped_begins}
use Rattle.nano_ron_tokens.proofs.BracketTokens.{scalar_is, field_begins}
use Rattle.nano_ron_tokens.proofs.SkippedCalls.{one_not, other_taken, brackets_taken, brackets_not}
use Rattle.nano_ron_tokens.proofs.state.DeRonState.whole_field.Goals as goal

pub returns-then-is_scalar : goal.returns-then-is_scalar
returns-then-is_scalar c =
    let old = c.args.self.now in
    let new = c.next_tok.new.self in
    let i = c.args.i.now in
    let j = c.next_tok.new.i in
    let scalar = scalar_is (pending old) (sym c.if-is_scalar.ensures) in
    MatchResult-weaker c.next_tok.result c.next_tok.ensures
    (λ _ x. (
      pending old ∷ [],
      other_taken old new i j scalar (λ word.
          let none = sym c.is_some.ensures ∙ c.if-is_some.false in
          let both = sym none ∙ c.next_ident.ensures.1 word in
          cc both) x,
    ))
    (λ _ x. one_not old new i j scalar x)

pub returns-then-is_opening : goal.returns-then-is_opening
returns-then-is_opening c =
    let old = c.args.self.now in
    let new = c.whole_brackets.new.self in
    let i = c.args.i.now in
    let j = c.whole_brackets.new.i in
    MatchResult-weaker c.whole_brackets.result c.whole_brackets.ensures
    (λ _ x. (x.0, brackets_taken old new i j x.0 x.1))
    (λ _ x. brackets_not old new i j (sym c.if-is_scalar.ensures) (sym c.if-is_opening.ensures) x)

pub returns : goal.returns
returns c =
    let here = pending c.args.self.now in
    let other = field_begins here (sym c.if-is_scalar.ensures) (sym c.if-is_opening.ensures) in
    record {
      fails = fails_here (inl (goes_wrong Cut Skips (position c.args.self.now c.args.i.now) refl (λ _. skipped_some)
          (λ ts _ s. other (skipped_begins here ts s)))) c.err_token.ensures;
      unchanged = λ _. (refl, refl);
      ended = λ is. absurd (other is);
      capacity = λ is. absurd (other is);
    }
