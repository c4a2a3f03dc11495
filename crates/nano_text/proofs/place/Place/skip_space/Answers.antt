use Rattle.std.proofs.Common.{sym, ◌∙◌, refl, rules}
use Rattle.nano_text.specs.Characters.{is_space}
use Rattle.nano_text.specs.Place.{text_at}
use Rattle.nano_text.proofs.Prefixes.{after_stop}
use Rattle.nano_text.proofs.PlaceLaws.{moves_none, moves_append}
use Rattle.nano_text.proofs.RemainingText.{first_is-remaining, not_nul}
use Rattle.nano_text.proofs.Spaces.{space_over, space_fewer}
use Rattle.nano_text.proofs.place.Place.skip_space.Goals as goal

pub returns-clause-rest : goal.returns-clause-rest
returns-clause-rest c =
    let stop = first_is-remaining is_space c.space.self.cur c.space.i refl
    ∙ sym c.space-test.ensures in
    sym (after_stop is_space _ stop) ∙ c.space.invariant.rest

pub space-init : goal.space-init
space-init c = record { rest = refl; counts = moves_none c.args.self.now c.args.i.now }

pub space-smaller-then-self-eq10 : goal.space-smaller-then-self-eq10
space-smaller-then-self-eq10 c =
    let new = c.skip_blanks.new in
    space_fewer c.space.self.cur c.space.i (text_at new.self new.i) (sym c.space-test.ensures)
    c.skip_blanks.ensures.rest

pub space-preserved-then-self-eq10 : goal.space-preserved-then-self-eq10
space-preserved-then-self-eq10 c =
    let new = c.skip_blanks.new in
    let some = not_nul is_space c.space.self.cur refl (sym c.space-test.ensures) in
    record {
      rest = space_over c.space.self.cur c.space.i (text_at new.self new.i)
          (sym c.space-test.ensures) c.skip_blanks.ensures.rest ∙ c.space.invariant.rest;
      counts = moves_append c.space.invariant.counts (c.skip_blanks.ensures.counts some);
    }

pub space-preserved : goal.space-preserved
space-preserved c =
    let some = not_nul is_space c.space.self.cur refl (sym c.space-test.ensures) in
    record {
      rest = search rules;
      counts = moves_append c.space.invariant.counts (c.next.ensures.counts some);
    }
