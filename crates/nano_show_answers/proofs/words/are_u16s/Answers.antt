use Rattle.std.proofs.Common.{arith, below_more, subst, sym, refl}
use Rattle.nano_show_answers.specs.Requests.{IsU16}
use Rattle.nano_show_answers.proofs.WordLemmas.{SomeIff-none, SomeIff-some, text_at, length-texts}
use Rattle.nano_show_answers.proofs.words.are_u16s.Goals as goal

pub returns-then-is_none : goal.returns-then-is_none
returns-then-is_none c =
    let at = text_at c.args.words.now c.loop-word.word-index c.word-item.result c.as_str.result.now
    c.as_str.result.now c.loop-word-test.true c.word-item.is c.as_str.ensures.value in (
      λ h. absurd (cc),
      λ all. absurd (SomeIff-none _ _ _ c.number.ensures c.if-is_none.ensures
          (subst IsU16 at (all c.loop-word.word-index c.as_str.result.now
          (omega (arith, length-texts c.args.words.now))))),
    )

pub loop-word-preserved : goal.loop-word-preserved
loop-word-preserved c =
    below_more _ _ c.loop-word.invariant
    (λ absent. subst IsU16 (sym (text_at c.args.words.now c.loop-word.word-index c.word-item.result
    c.as_str.result.now absent c.loop-word-test.true c.word-item.is c.as_str.ensures.value))
    (SomeIff-some _ _ _ c.number.ensures c.if-is_none.ensures))

pub returns : goal.returns
returns c = (
  (λ h place absent below. c.loop-word.invariant place
      (omega (arith, length-texts c.args.words.now)) absent),
  λ all. refl,
)
