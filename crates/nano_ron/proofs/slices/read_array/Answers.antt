use Rattle.nano_grammar.proofs.TokenCalls.{passed_on}
use Rattle.nano_ron.proofs.slices.read_array.Goals as goal

pub returns-in_err-items : goal.returns-in_err-items
returns-in_err-items g c = passed_on _ _ c.from_residual.result c.from_residual.ensures.1 c.in_err-items.ensures.reads
