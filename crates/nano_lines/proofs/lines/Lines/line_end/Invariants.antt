-- no line was taken
use Rattle.nano_lines.specs.Steps.{KeepsAll}
use Rattle.nano_lines.proofs.lines.Lines.line_end.Given as goal

abbrev pub invariant-reads : goal.invariant-reads
invariant-reads g l = KeepsAll g.R.Read.remaining l.fn.self l.self
