use Rattle.nano_document.proofs.Indenting.{indented_is_written}
use Rattle.nano_document.proofs.laws.indented_text_is_cut_into_the_same_tokens.Goals as goal

pub returns : goal.returns
returns c = λ d rest follows. (indented_is_written c.args.value.now c.known.ensures d).cut_again rest follows
