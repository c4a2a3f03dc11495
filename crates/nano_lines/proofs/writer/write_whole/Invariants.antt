-- the bytes are those that were written, and the rest
use Rattle.nano_lines.specs.Writes.{WritesUpTo}
use Rattle.nano_lines.proofs.writer.write_whole.Given as goal

abbrev pub invariant-writes : goal.invariant-writes
invariant-writes g l =
    WritesUpTo l.rest (g.W.Write.contents l.fn.output) (g.W.Write.contents l.output) l.bytes
