use Rattle.std.proofs.Common.{ap, sym, refl, ◌∙◌, ◌∷◌, List, ℕ}
use Rattle.nano_text.proofs.PlaceLaws.{moves_append}
use Rattle.nano_text.proofs.RemainingText.{first_is-remaining}
use Rattle.nano_json_tokens.specs.Cut.{is_word}
use Rattle.nano_json_tokens.specs.Token.{null}
use Rattle.nano_json_tokens.proofs.PlainCalls.{word_after}
use Rattle.nano_json_tokens.proofs.plain.take_null.Goals as goal

pub returns : goal.returns
returns c =
    let n = c.in_ok-take_character.ensures in
    let u = c.in_ok-take_character-2.ensures in
    let l = c.in_ok-take_character-3.ensures in
    let m = c.in_ok-take_character-4.ensures in
    let end = c.take_character-4.new in
    let text = n.0 ∙ ap (λ (s : List ℕ). 110 ∷ s) (u.0 ∙ ap (λ (s : List ℕ). 117 ∷ s) (l.0 ∙ ap (λ (s : List ℕ). 108 ∷ s) m.0)) in
    let ends = first_is-remaining is_word end.place.cur end.input refl ∙ sym c.if-is_word.ensures in (
      word_after null c.skip_space.ensures.rest (text, ends),
      moves_append c.skip_space.ensures.counts (moves_append n.1 (moves_append u.1 (moves_append l.1 m.1))),
    )
