use Rattle.std.proofs.Common.{◌≢◌, ℕ, List, sym, ap, refl, ◌∙◌}
use Rattle.nano_text.specs.Number.{is_sign}
use Rattle.nano_text.specs.Place.{text_at}
use Rattle.nano_text.proofs.PlaceLaws.{moves_none}
use Rattle.nano_text.specs.Scan.{after_one, after_sign}
use Rattle.nano_text.proofs.RemainingText.{remaining_stop, not_nul}
use Rattle.nano_text.proofs.InLine.{first_stop, one_stop}
use Rattle.nano_text.proofs.run.take_sign.Goals as goal

pub returns-then-not-is_sign-clause-sign : goal.returns-then-not-is_sign-clause-sign
returns-then-not-is_sign-clause-sign c = sym (first_stop is_sign (text_at c.args.p.now c.args.i.now) (remaining_stop is_sign _ c.args.i.now refl (sym c.if-not-is_sign.ensures)))

pub returns-then-not-is_sign-clause-rest : goal.returns-then-not-is_sign-clause-rest
unfolding after_sign
returns-then-not-is_sign-clause-rest c = sym (one_stop is_sign (text_at c.args.p.now c.args.i.now) (remaining_stop is_sign _ c.args.i.now refl (sym c.if-not-is_sign.ensures)))

pub returns-clause-rest : goal.returns-clause-rest
unfolding after_sign
returns-clause-rest c =
    let some : c.args.p.now.cur ≢ 0 = not_nul is_sign c.args.p.now.cur refl (sym c.if-not-is_sign.ensures) in
    sym (ap (λ (t : List ℕ). after_one is_sign t) (c.next.ensures.taken some) ∙ rw (sym c.if-not-is_sign.ensures) refl)

pub returns-then-not-is_sign-clause-place : goal.returns-then-not-is_sign-clause-place
returns-then-not-is_sign-clause-place c = moves_none c.args.p.now c.args.i.now

pub returns-clause-place : goal.returns-clause-place
returns-clause-place c = c.next.ensures.counts (not_nul is_sign c.args.p.now.cur refl (sym c.if-not-is_sign.ensures))
