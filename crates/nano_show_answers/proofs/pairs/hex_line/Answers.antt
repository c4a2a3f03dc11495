use Rattle.std.proofs.Common.{◌≡◌, ◌++◌, ◌<◌, ap, ◌∙◌, arith, length, get_or}
use Rattle.std.proofs.lemmas.Grind.{common_steps}
use Rattle.nano_show_answers.specs.Listing.{hex_pair}
use Rattle.nano_show_answers.proofs.ListingLemmas.{pair_first, pair_later}
use Rattle.nano_show_answers.proofs.pairs.hex_line.Goals as goal
use Rattle.nano_show_answers.proofs.pairs.hex_line.Goals.{then-not-is_empty+in_ok-push}
use Rattle.nano_show_answers.proofs.pairs.hex_line.Goals.{else-not-is_empty}

pub loop-byte-preserved : goal.loop-byte-preserved
loop-byte-preserved c =
    elim c.if-not-is_empty.branch [
      | then-not-is_empty+in_ok-push w ↦
          let some : 0 < length c.loop-byte.text.items =
          grind (arith, common_steps, w.if-not-is_empty.ensures, c.loop-byte.text.ok.0) in
          pair_later _ _ c.loop-byte-test.true _ c.loop-byte.invariant some _
          (c.in_ok-push_pair.ensures ∙ ap (λ text. text
          ++ hex_pair (get_or c.args.bytes.now c.loop-byte.byte-index 0))
          (ap (λ text. text.items) w.text-is ∙ w.in_ok-push.ensures.items))
      | else-not-is_empty w ↦
          let none : length c.loop-byte.text.items ≡ 0 =
          grind (arith, common_steps, w.if-not-is_empty.ensures, c.loop-byte.text.ok.0) in
          pair_first _ _ c.loop-byte-test.true _ c.loop-byte.invariant none _
          (c.in_ok-push_pair.ensures ∙ ap (λ text. text
          ++ hex_pair (get_or c.args.bytes.now c.loop-byte.byte-index 0))
          (ap (λ text. text.items) w.text-is))
    ]
