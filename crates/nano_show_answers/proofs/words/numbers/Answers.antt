use Rattle.std.proofs.Common.{arith, subst}
use Rattle.nano_show_answers.specs.Requests.{IsU16}
use Rattle.nano_show_answers.proofs.WordLemmas.{SomeIff-IsSome, text_at, length-texts}
use Rattle.nano_show_answers.proofs.words.numbers.Goals as goal

pub unwrap-number-requires : goal.unwrap-number-requires
unwrap-number-requires c =
    let at = text_at c.args.numerals.now c.loop-numeral.numeral-index c.numeral-item.result
    c.as_str.result.now c.as_str.result.now c.loop-numeral-test.true c.numeral-item.is
    c.as_str.ensures.value in
    SomeIff-IsSome _ _ _ c.number.ensures
    (subst IsU16 at (c.requires c.loop-numeral.numeral-index c.as_str.result.now
    (omega (arith, length-texts c.args.numerals.now))))
