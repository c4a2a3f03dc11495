use Rattle.std.proofs.Common.{refl, true, false}
use Rattle.nano_text.proofs.PlaceLaws.{moves_append}
use Rattle.nano_grammar.proofs.Plain.{one_taken}
use Rattle.nano_json_tokens.specs.Cut.{Cut}
use Rattle.nano_json_tokens.specs.Scan.{ATruth}
use Rattle.nano_json_tokens.specs.Token.{bool}
use Rattle.nano_json_tokens.proofs.PlainCalls.{word_after}
use Rattle.nano_json_tokens.proofs.plain.take_plain_bool.Goals as goal

pub returns-then-place-eq116 : goal.returns-then-place-eq116
returns-then-place-eq116 c =
    let word = c.in_ok-take_true.ensures in (
      one_taken Cut ATruth (bool true) refl (word_after (bool true) c.skip_space.ensures.rest word.0),
      moves_append c.skip_space.ensures.counts word.1,
    )

pub returns : goal.returns
returns c =
    let word = c.in_ok-take_false.ensures in (
      one_taken Cut ATruth (bool false) refl (word_after (bool false) c.skip_space.ensures.rest word.0),
      moves_append c.skip_space.ensures.counts word.1,
    )
