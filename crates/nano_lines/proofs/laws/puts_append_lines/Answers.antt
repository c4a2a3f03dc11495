use Rattle.nano_lines.proofs.PromiseLemmas.{adds_lines}
use Rattle.nano_lines.proofs.laws.puts_append_lines.Goals as goal

pub returns : goal.returns
returns c = adds_lines
