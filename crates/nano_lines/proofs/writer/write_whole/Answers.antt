use Rattle.std.proofs.Common.{◌≡◌, drop, ap, sym, subst, ◌∙◌}
use Rattle.std.proofs.lemmas.List.{take_rest}
use Rattle.nano_lines.specs.Writes.{WritesUpTo}
use Rattle.nano_lines.proofs.WriteLemmas.{WritesUpTo-more, WritesUpTo-unchanged}
use Rattle.nano_lines.proofs.writer.write_whole.Goals as goal
use Rattle.nano_lines.proofs.writer.write_whole.Goals.{in-Ok, in-Err+else-ne}

pub writes-preserved : goal.writes-preserved
writes-preserved g c =
    elim c.match-write.branch [
      | in-Ok w ↦
          let left : c.match-write.rest.now ≡ drop w.in-Ok.count c.writes.rest.now =
          ap (λ rest. rest.now) w.rest-is ∙ take_rest c.writes.rest.now w.in-Ok.count in
          WritesUpTo-more _ _ _ _ _ c.writes.invariant w.in-Ok.count _ left w.in-Ok.ensures.bytes
      | in-Err+else-ne w ↦
          subst (λ rest. WritesUpTo rest (g.W.Write.contents c.args.output.now)
          (g.W.Write.contents c.write.new.self) c.args.bytes.now)
          (sym (ap (λ rest. rest.now) w.rest-is))
          (WritesUpTo-unchanged _ _ _ _ _ c.writes.invariant w.in-Err.ensures.bytes)
    ]
