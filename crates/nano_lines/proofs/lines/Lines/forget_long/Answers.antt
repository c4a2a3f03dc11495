use Rattle.std.proofs.Common.{refl, sym, subst, ◌∙◌, arith, ◌≡◌, length}
use Rattle.std.proofs.lemmas.List.{drop_all}
use Rattle.nano_lines.specs.Lines.{HasNoFeed}
use Rattle.nano_lines.proofs.LeftLemmas.{keeps_long}
use Rattle.nano_lines.proofs.lines.Lines.forget_long.Goals as goal

pub returns-then-is_long : goal.returns-then-is_long
returns-then-is_long g c =
    let old = c.args.self.now in
    let end = c.len-end.result in
    let begun = old.buffer.begun in
    let within = old.buffer.within in
    let whole : end ≡ length old.buffer.bytes.items = c.len-end.ensures ∙ old.buffer.bytes.ok.0 in
    let nothing = c.take_past.ensures ∙ drop_all _ old.buffer.bytes.items (omega (arith, whole)) in
    record {
      unchanged =
          keeps_long g.R.Read.remaining old _ end whole (omega (arith, begun, within, whole)) c.requires
          (c.is_long.ensures.0 c.if-is_long.true) refl refl refl refl nothing;
      one_line = subst HasNoFeed (sym nothing) tt;
    }
