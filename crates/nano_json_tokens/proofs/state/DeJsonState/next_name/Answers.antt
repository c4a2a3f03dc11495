use Rattle.std.proofs.Common.{ℕ, List, ap, arith, refl, subst, sym, ◌∙◌, ◌∷◌}
use Rattle.nano_text.specs.Place.{remaining, text_at, Moves}
use Rattle.nano_text.specs.Characters.{following}
use Rattle.nano_text.specs.String.{IsPlainString}
use Rattle.nano_text.specs.Characters.{is_space}
use Rattle.nano_text.proofs.PlaceLaws.{moves_append, moves_from}
use Rattle.nano_text.specs.declared.place.Place.{Place}
use Rattle.nano_json_tokens.specs.State.{pending, place_of}
use Rattle.nano_text.proofs.RemainingText.{same_remaining}
use Rattle.nano_json_tokens.proofs.Scanning.{name_ahead, colon_ahead}
use Rattle.nano_json_tokens.proofs.state.DeJsonState.next_name.Goals as goal

pub returns-clause-name : goal.returns-clause-name
returns-clause-name c =
    let found = c.in_ok-name.ensures.found in
    let here = c.place-place.result in
    let same = c.chars-rest.ensures.rest ∙ c.as_str.ensures in
    let spaced = same_remaining here.cur c.chars-rest.result c.skip_space.new.i same
    ∙ (ap (λ (p : Place). text_at p c.skip_space.new.i) c.place-place.ensures ∙ c.skip_space.ensures.rest) in
    let colon_first = c.next.ensures.taken (λ e. omega (arith, e, c.if-place-ne58.false))
    ∙ ap (λ n. n ∷ text_at c.next.new.self c.next.new.i) c.if-place-ne58.false in
    let string = moves_from (place_of c.skip_space.new.self) c.plain_string.new.p c.chars-rest.result c.skip_space.new.i c.plain_string.new.i same
    (subst (λ (p : Place). Moves p c.chars-rest.result c.plain_string.new.p c.plain_string.new.i) c.place-place.ensures c.in_ok-name.ensures.place) in
    let colon = c.next.ensures.counts (λ e. omega (arith, e, c.if-place-ne58.false)) in
    rw c.stand_at.ensures (record {
      colon = refl;
      taken =
          name_ahead (remaining c.args.self.now.cur c.args.i.now) (text_at here c.chars-rest.result)
          (text_at c.plain_string.new.p c.plain_string.new.i) (text_at c.next.new.self c.next.new.i) found.0 c.in_ok-name.name.now
          (pending c.args.self.now) spaced found.1 colon_first found.2;
      place = moves_append c.skip_space.ensures.place (moves_append string colon);
    })

pub returns-in_err-name-clause-name : goal.returns-in_err-name-clause-name
returns-in_err-name-clause-name c =
    let same = same_remaining c.place-place.result.cur c.chars-rest.result c.skip_space.new.i (c.chars-rest.ensures.rest ∙ c.as_str.ensures) in
    let spaced = same
    ∙ (ap (λ (p : Place). text_at p c.skip_space.new.i) c.place-place.ensures ∙ c.skip_space.ensures.rest) in
    rw c.from_residual.ensures (record {
      none = λ name rest ahead. c.in_err-name.ensures.none refl name (58 ∷ rest) (subst (λ (l : List ℕ). IsPlainString l name (58 ∷ rest)) (sym spaced) ahead);
      tok = c.skip_space.ensures.tok;
      space = c.skip_space.ensures.rest;
      place = c.skip_space.ensures.place;
    })

pub returns-then-place-ne58-clause-name : goal.returns-then-place-ne58-clause-name
returns-then-place-ne58-clause-name c =
    let same = same_remaining c.place-place.result.cur c.chars-rest.result c.skip_space.new.i (c.chars-rest.ensures.rest ∙ c.as_str.ensures) in
    let spaced = same
    ∙ (ap (λ (p : Place). text_at p c.skip_space.new.i) c.place-place.ensures ∙ c.skip_space.ensures.rest) in
    let found = c.in_ok-name.ensures.found in
    let text = following is_space (remaining c.args.self.now.cur c.args.i.now) in
    record {
      none = λ name rest ahead. c.if-place-ne58.true (colon_ahead c.plain_string.new.p.cur c.plain_string.new.i text _ found.0 name rest spaced found.1 ahead);
      tok = c.skip_space.ensures.tok;
      space = c.skip_space.ensures.rest;
      place = c.skip_space.ensures.place;
    }
