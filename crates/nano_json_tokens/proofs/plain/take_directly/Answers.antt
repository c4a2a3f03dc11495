use Rattle.std.proofs.Common.{sym, ◌∙◌, ap, subst, List, ℕ}
use Rattle.nano_text.specs.Place.{text_at}
use Rattle.nano_json_tokens.specs.Cut.{Cut}
use Rattle.nano_json_tokens.specs.Scan.{punctuator_of}
use Rattle.nano_json_tokens.proofs.Cuts.{punctuator_cut}
use Rattle.nano_json_tokens.proofs.plain.take_directly.Goals as goal

pub returns-clause-taken : goal.returns-clause-taken
returns-clause-taken c _ token is =
    let here = c.args.place.now in
    let rest = text_at c.next.new.self c.next.new.i in
    let same = c.if-place-punctuator.false in
    let text = c.next.ensures.taken (λ e. c.requires (sym same ∙ e)) in
    subst (λ (s : List ℕ). Cut s token rest) (sym text) (punctuator_cut here.cur rest token (ap punctuator_of same ∙ is))

pub returns-clause-counts : goal.returns-clause-counts
returns-clause-counts c = c.next.ensures.counts (λ e. c.requires (sym c.if-place-punctuator.false ∙ e))
