use Rattle.std.proofs.Common.{sym, ◌∙◌, ap, refl, inl, inr, [], ◌∷◌}
use Rattle.std.proofs.lemmas.Result.{MatchResult-weaker}
use Rattle.nano_text.proofs.PlaceLaws.{moves_advance, moves_none}
use Rattle.nano_grammar.proofs.FaultLaws.{goes_wrong, stopped_here, wrong_in}
use Rattle.nano_grammar.proofs.TokenCalls.{fails_here}
use Rattle.nano_json_tokens.specs.Cut.{Cut}
use Rattle.nano_json_tokens.specs.Outcomes.{position}
use Rattle.nano_json_tokens.specs.Skipped.{Skips, Brackets}
use Rattle.nano_json_tokens.specs.State.{at}
use Rattle.nano_json_tokens.proofs.BracketCounts.{skipped_some, skipped_begins, skipped_bracket}
use Rattle.nano_json_tokens.proofs.BracketCounts.{scalar_is, opening_one, field_begins}
use Rattle.nano_json_tokens.proofs.Calling.{gives_up, none_ended_there, made_there}
use Rattle.nano_json_tokens.proofs.state.DeJsonState.whole_field.Goals as goal

pub returns-then-is_scalar : goal.returns-then-is_scalar
returns-then-is_scalar c =
    let here = at c.args.self.now c.args.i.now in
    let scalar = scalar_is here.token (sym c.if-is_scalar.ensures) in
    MatchResult-weaker c.next_tok.result c.next_tok.ensures
    (λ _ x. (
      here.token ∷ [],
      inl (here.token, refl, scalar),
      record {
        taken = (refl, (at c.next_tok.new.self c.next_tok.new.i, x.taken, refl));
        buffers = λ _. x.buffers;
        place = x.place;
      },
    ))
    (λ _ x. record {
      fails = stopped_here Cut Skips refl (λ _. skipped_some) x.fails;
      unchanged = λ other. absurd (other (inl scalar));
      ended = λ _. x.ended;
      capacity = λ _ _. x.capacity;
    })

pub returns-in-Ok : goal.returns-in-Ok
returns-in-Ok c =
    let x = c.in-Ok.ensures in
    (x.0, inr x.1, record { taken = x.2.taken; buffers = λ is. (let e = sym is ∙ sym c.if-is_scalar.ensures in cc e); place = x.2.place })

pub returns-in-Err : goal.returns-in-Err
returns-in-Err c =
    let here = at c.args.self.now c.args.i.now in
    let mid = c.skip_brackets.new.self in
    let new = c.reject.new.self in
    let x = c.in-Err.ensures in
    let is = c.reject.ensures.unchanged in
    let opening = sym c.if-is_opening.ensures in
    record {
      fails = none_ended_there Skips mid new c.skip_brackets.new.i c.reject.result is (record {
        rejected = λ known.
            let start = position c.args.self.now c.args.i.now in
            wrong_in Cut Skips Brackets [] (skipped_bracket here.token opening) refl
            (moves_none start.place start.input) (x.rejected (c.reject.ensures.made.0 known));
        made = made_there mid new c.reject.result is c.reject.ensures.made.1;
        place = moves_advance x.place;
      });
      unchanged = λ other. absurd (other (inr (opening_one here.token opening)));
      ended = λ _. ap (λ p. p.at) (gives_up mid new c.skip_brackets.new.i is);
      capacity = λ _ is_one. (let e = sym is_one ∙ sym c.if-is_scalar.ensures in cc e);
    }

pub returns : goal.returns
returns c =
    let here = at c.args.self.now c.args.i.now in
    let other = field_begins here.token (sym c.if-is_scalar.ensures) (sym c.if-is_opening.ensures) in
    record {
      fails = fails_here (goes_wrong Cut Skips (position c.args.self.now c.args.i.now) refl (λ _. skipped_some)
          (λ ts _ s. other (skipped_begins here.token ts s))) c.err_token.ensures;
      unchanged = λ _. (refl, refl);
      ended = λ is. absurd (other is);
      capacity = λ is. absurd (other is);
    }
