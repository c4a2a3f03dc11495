use Rattle.std.proofs.Common.{sym, refl}
use Rattle.nano_text.specs.Number.{is_letter_e}
use Rattle.nano_text.specs.Place.{text_at}
use Rattle.nano_text.proofs.RemainingText.{remaining_stop, not_nul}
use Rattle.nano_text.proofs.InLine.{exponent_stop, after_exponent_stop}
use Rattle.nano_text.proofs.PlaceLaws.{moves_none, moves_append}
use Rattle.nano_text.proofs.run.take_exponent.Goals as goal

pub returns-then-not-is_letter_e-clause-found : goal.returns-then-not-is_letter_e-clause-found
returns-then-not-is_letter_e-clause-found c = rw (exponent_stop (text_at c.args.p.now c.args.i.now) (remaining_stop is_letter_e _ c.args.i.now refl (sym c.if-not-is_letter_e.ensures))) refl

pub returns-then-not-is_letter_e-clause-rest : goal.returns-then-not-is_letter_e-clause-rest
returns-then-not-is_letter_e-clause-rest c = sym (after_exponent_stop (text_at c.args.p.now c.args.i.now) (remaining_stop is_letter_e _ c.args.i.now refl (sym c.if-not-is_letter_e.ensures)))

pub returns-then-not-is_letter_e-clause-place : goal.returns-then-not-is_letter_e-clause-place
returns-then-not-is_letter_e-clause-place c = moves_none c.args.p.now c.args.i.now

pub returns-clause-place : goal.returns-clause-place
returns-clause-place c =
    let some = not_nul is_letter_e c.args.p.now.cur refl (sym c.if-not-is_letter_e.ensures) in
    moves_append (c.next.ensures.counts some) (moves_append c.take_minus-minus.ensures.place c.take_digits-digits.ensures.place)
