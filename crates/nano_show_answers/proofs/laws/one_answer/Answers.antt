use Rattle.nano_show_answers.proofs.AnswerLemmas.{one_answer, every_kind}
use Rattle.nano_show_answers.proofs.laws.one_answer.Goals as goal

pub returns : goal.returns
returns c = one_answer _ (every_kind _ c.all_agreed.ensures)
