use Rattle.std.proofs.Common.{map, sym, subst, ◌∙◌}
use Rattle.std.proofs.lemmas.Iterator.{YieldsList-from_chars, YieldsList-from_take}
use Rattle.std.proofs.lemmas.Iterator.Consumers.{YieldsList-end}
use Rattle.std.specs.Io.KnownBytes.{Appends}
use Rattle.derive_source.specs.Shown.{blank}
use Rattle.derive_source.proofs.ShownLemmas.{itself}
use Rattle.derive_source.proofs.error.print_blanks.Goals as goal

pub returns : goal.returns
returns g c =
    let all = YieldsList-from_take c.args.count (YieldsList-from_chars c.args.line.now c.utf8.line cc) cc in
    let t = YieldsList-end all c.loop-c.yielded _ c.loop-c.yielded_by _ _ c.in-None.is c.next.ensures.steps in
    subst (λ l. Appends (g.W.Write.contents c.args.output.now) (g.W.Write.contents c.loop-c.output) (map blank l))
    (sym (itself c.loop-c.yielded) ∙ t.0) c.loop-c.invariant
