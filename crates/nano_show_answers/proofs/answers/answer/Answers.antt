use Rattle.nano_show_answers.proofs.AnswerLemmas.{command_at}
use Rattle.nano_show_answers.proofs.answers.answer.Goals as goal

pub returns-in_ok-u16s_line-in-CodeU16s-clause-answered :
    goal.returns-in_ok-u16s_line-in-CodeU16s-clause-answered
returns-in_ok-u16s_line-in-CodeU16s-clause-answered g c =
    command_at c.args.command _ c.in-CodeU16s.is _ (λ input. c.in_ok-u16s_line-in-CodeU16s.ensures)

pub returns-in_ok-text_line-in-CodeText-clause-answered :
    goal.returns-in_ok-text_line-in-CodeText-clause-answered
returns-in_ok-text_line-in-CodeText-clause-answered g c =
    command_at c.args.command _ c.in-CodeText.is _ (λ input. c.in_ok-text_line-in-CodeText.ensures)
