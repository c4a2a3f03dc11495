use Rattle.std.proofs.Common.{map, sym, subst, ◌∙◌, encode_utf8_all}
use Rattle.std.proofs.lemmas.Iterator.{YieldsList-from_chars, YieldsList-from_take}
use Rattle.std.proofs.lemmas.Iterator.Adapters.{YieldsList-from_skip}
use Rattle.std.proofs.lemmas.Iterator.Consumers.{YieldsList-end}
use Rattle.std.specs.Io.KnownBytes.{Appends}
use Rattle.nano_text_forms.specs.Shown.{visible}
use Rattle.std.proofs.KnownBytes.{Appends-trans}
use Rattle.nano_text_forms.proofs.ExcerptLemmas.{itself, more_written}
use Rattle.nano_text_forms.proofs.excerpt.print_part.Goals as goal

pub loop-c-preserved : goal.loop-c-preserved
loop-c-preserved g c =
    let contents = g.W.Write.contents in
    subst (λ l. Appends (contents c.args.output.now) (contents c.write.new.self) l)
    (more_written c.loop-c.yielded c.in-Some.c c.visible.result c.visible.ensures)
    (Appends-trans (contents c.args.output.now) (contents c.loop-c.output) (contents c.write.new.self) _ _ c.loop-c.invariant
    c.in_ok-write.ensures.bytes)

pub returns : goal.returns
returns g c =
    let all = YieldsList-from_take c.args.count (YieldsList-from_skip c.args.start (YieldsList-from_chars c.args.line.now c.utf8.line cc) cc) cc in
    let t = YieldsList-end all c.loop-c.yielded _ c.loop-c.yielded_by _ _ c.in-None.is c.next.ensures.steps in
    subst (λ l. Appends (g.W.Write.contents c.args.output.now) (g.W.Write.contents c.loop-c.output) (encode_utf8_all (map visible l)))
    (sym (itself c.loop-c.yielded) ∙ t.0) c.loop-c.invariant
