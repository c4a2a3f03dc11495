-- white space is written under the characters so far
use Rattle.std.proofs.Common.{map}
use Rattle.std.specs.Io.KnownBytes.{Appends}
use Rattle.derive_source.specs.Shown.{blank}
use Rattle.derive_source.proofs.error.print_blanks.Given as goal

abbrev pub invariant-loop-c : goal.invariant-loop-c
invariant-loop-c g l =
    Appends (g.W.Write.contents l.fn.output) (g.W.Write.contents l.output) (map blank l.yielded)
