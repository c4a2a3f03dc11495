use Rattle.std.proofs.Common.{refl, subst, ◌∙◌, List, ℕ}
use Rattle.nano_text.specs.Place.{text_at}
use Rattle.nano_text.proofs.PlaceLaws.{moves_append, moves_from}
use Rattle.nano_text.proofs.RemainingText.{same_remaining}
use Rattle.nano_grammar.specs.Plain.{TookPlainly}
use Rattle.nano_grammar.proofs.Plain.{item_taken}
use Rattle.nano_ron_tokens.specs.Cut.{Cut}
use Rattle.nano_ron_tokens.specs.Outcomes.{at_comma}
use Rattle.nano_ron_tokens.specs.Token.{comma}
use Rattle.nano_ron.proofs.lists.take_item.Goals as goal

pub returns : goal.returns
returns g c =
    let p = c.args.place.now in
    let i = c.args.input.now in
    let j = c.chars-rest.result in
    let q = c.de_ron_plain.new.place in
    let k = c.de_ron_plain.new.input in
    let same = c.chars-rest.ensures.rest ∙ c.as_str.ensures in
    let item = c.in_ok-item.ensures in
    let encodes = g.T.RonCodec.ron.encoding.encodes in
    let taken =
    subst (λ (text : List ℕ). TookPlainly Cut encodes text (text_at q k) (g.T.Value.means c.in_ok-item.item))
    (same_remaining p.cur j i same) item.0 in
    let token_cut = c.take_directly.ensures.taken c.if-not-take_directly.false comma refl in
    item_taken Cut comma (at_comma p i) (at_comma c.take_directly.new.place c.take_directly.new.input) (text_at q k) refl taken
    token_cut (moves_append (moves_from p q j i k same item.1) c.take_directly.ensures.counts)
