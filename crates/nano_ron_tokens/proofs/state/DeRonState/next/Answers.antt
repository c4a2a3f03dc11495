use Rattle.std.proofs.Common.{sym, ap, ◌∙◌}
use Rattle.nano_text.specs.declared.place.Place.{Place}
use Rattle.nano_ron_tokens.proofs.Scanning.{moved_at}
use Rattle.nano_ron_tokens.proofs.state.DeRonState.next.Goals as goal

pub returns-clause-counts : goal.returns-clause-counts
returns-clause-counts c some =
    moved_at c.args.self.now c.args.self.now c.stand_at.new.self c.place-place.result c.next.new.self c.args.i.now c.next.new.i c.place-place.ensures
    c.stand_at.ensures (c.next.ensures.counts (λ e. some (sym (ap (λ (p : Place). p.cur) c.place-place.ensures) ∙ e)))
