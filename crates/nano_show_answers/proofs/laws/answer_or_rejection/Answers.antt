use Rattle.nano_show_answers.proofs.AnswerLemmas.{answer_or_rejection}
use Rattle.nano_show_answers.proofs.laws.answer_or_rejection.Goals as goal

pub returns : goal.returns
returns c = answer_or_rejection _
