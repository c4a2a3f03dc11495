use Rattle.nano_grammar.proofs.WholeInputs.{tells_nul}
use Rattle.nano_grammar.proofs.whole.holds_nul.Goals as goal

pub returns : goal.returns
returns c = tells_nul c.args.text.now c.utf8.text c.contains.result c.contains.ensures.cases
