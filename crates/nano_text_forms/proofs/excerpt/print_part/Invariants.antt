-- the characters so far are written
use Rattle.std.proofs.Common.{map, encode_utf8_all}
use Rattle.std.specs.Io.KnownBytes.{Appends}
use Rattle.nano_text_forms.specs.Shown.{visible}
use Rattle.nano_text_forms.proofs.excerpt.print_part.Given as goal

abbrev pub invariant-loop-c : goal.invariant-loop-c
invariant-loop-c g l =
    Appends (g.W.Write.contents l.fn.output) (g.W.Write.contents l.output)
    (encode_utf8_all (map visible l.yielded))
