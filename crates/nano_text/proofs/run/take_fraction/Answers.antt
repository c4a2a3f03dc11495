use Rattle.std.proofs.Common.{sym, refl, ne_eqb, arith}
use Rattle.nano_text.specs.Number.{is_point}
use Rattle.nano_text.specs.Place.{text_at}
use Rattle.nano_text.proofs.RemainingText.{remaining_stop}
use Rattle.nano_text.proofs.InLine.{fraction_stop, after_fraction_stop}
use Rattle.nano_text.proofs.PlaceLaws.{moves_none, moves_append}
use Rattle.nano_text.proofs.run.take_fraction.Goals as goal

pub returns-then-p-ne46-clause-found : goal.returns-then-p-ne46-clause-found
returns-then-p-ne46-clause-found c = rw (fraction_stop (text_at c.args.p.now c.args.i.now) (remaining_stop is_point _ c.args.i.now refl (ne_eqb _ _ c.if-p-ne46.true))) refl

pub returns-then-p-ne46-clause-rest : goal.returns-then-p-ne46-clause-rest
returns-then-p-ne46-clause-rest c = sym (after_fraction_stop (text_at c.args.p.now c.args.i.now) (remaining_stop is_point _ c.args.i.now refl (ne_eqb _ _ c.if-p-ne46.true)))

pub returns-then-p-ne46-clause-place : goal.returns-then-p-ne46-clause-place
returns-then-p-ne46-clause-place c = moves_none c.args.p.now c.args.i.now

pub returns-clause-place : goal.returns-clause-place
returns-clause-place c =
    moves_append (c.next.ensures.counts (λ e. omega (arith, e, c.if-p-ne46.false))) c.take_digits.ensures.place
