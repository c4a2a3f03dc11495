use Rattle.std.proofs.Common.{ap, sym, refl, ◌∙◌, ◌∷◌, List, ℕ}
use Rattle.nano_text.proofs.PlaceLaws.{moves_append}
use Rattle.nano_text.proofs.RemainingText.{first_is-remaining}
use Rattle.nano_json_tokens.specs.Cut.{is_word}
use Rattle.nano_json_tokens.proofs.plain.take_false.Goals as goal

pub returns : goal.returns
returns c =
    let first = c.in_ok-take_character.ensures in
    let second = c.in_ok-take_character-2.ensures in
    let third = c.in_ok-take_character-3.ensures in
    let fourth = c.in_ok-take_character-4.ensures in
    let fifth = c.in_ok-take_character-5.ensures in
    let end = c.take_character-5.new in
    let text = first.0 ∙ ap (λ (s : List ℕ). 102 ∷ s) (second.0 ∙ ap (λ (s : List ℕ). 97 ∷ s) (third.0 ∙ ap (λ (s : List ℕ). 108 ∷ s) (fourth.0 ∙ ap (λ (s : List ℕ). 115 ∷ s) fifth.0))) in
    let ends = first_is-remaining is_word end.place.cur end.input refl ∙ sym c.if-is_word.ensures in
    ((text, ends), moves_append first.1 (moves_append second.1 (moves_append third.1 (moves_append fourth.1 fifth.1))))
