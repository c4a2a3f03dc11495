use Rattle.std.proofs.Common.{sym, refl, ne_eqb, arith}
use Rattle.nano_text.specs.Place.{text_at}
use Rattle.nano_text.proofs.PlaceLaws.{moves_none}
use Rattle.nano_text.specs.Scan.{is_minus_char}
use Rattle.nano_text.proofs.RemainingText.{remaining_stop}
use Rattle.nano_text.proofs.InLine.{one_stop}
use Rattle.nano_text.proofs.run.take_minus.Goals as goal

pub returns-then-p-ne45-clause-minus : goal.returns-then-p-ne45-clause-minus
returns-then-p-ne45-clause-minus c = sym (remaining_stop is_minus_char _ c.args.i.now refl (ne_eqb _ _ c.if-p-ne45.true))

pub returns-then-p-ne45-clause-rest : goal.returns-then-p-ne45-clause-rest
returns-then-p-ne45-clause-rest c = sym (one_stop is_minus_char (text_at c.args.p.now c.args.i.now) (remaining_stop is_minus_char _ c.args.i.now refl (ne_eqb _ _ c.if-p-ne45.true)))

pub returns-then-p-ne45-clause-place : goal.returns-then-p-ne45-clause-place
returns-then-p-ne45-clause-place c = moves_none c.args.p.now c.args.i.now

pub returns-clause-place : goal.returns-clause-place
returns-clause-place c = c.next.ensures.counts (λ e. omega (arith, e, c.if-p-ne45.false))
