-- blank lines were taken
use Rattle.nano_lines.specs.Outcomes.{TakesBlanks}
use Rattle.nano_lines.proofs.lines.Lines.next.Given as goal

abbrev pub invariant-lines : goal.invariant-lines
invariant-lines g l = TakesBlanks g.R.Read.remaining l.fn.self l.self
