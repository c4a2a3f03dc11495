use Rattle.std.proofs.Common.{string_bytes}
use Rattle.std.proofs.lemmas.Result.{on_ok_weaker}
use Rattle.nano_text.specs.Place.{saturating_next}
use Rattle.nano_ron.proofs.Canonical.{line_written}
use Rattle.nano_ron_nested.proofs.lists.append_line.Goals as goal

pub returns-clause-ok : goal.returns-clause-ok
returns-clause-ok g c =
    on_ok_weaker c.conl.result (λ last. line_written (string_bytes c.args.s.now.out) (string_bytes c.indent.new.self.out) (string_bytes c.write_ron.new.s.out) (string_bytes c.conl.new.self.out) c.saturating_add-inner.result (saturating_next c.args.d) (λ n. g.T.RonCodec.ron.canonical.text n c.args.item.now) c.saturating_add-inner.ensures c.in_ok-indent.ensures.ok c.in_ok-write_ron.ensures.ok last) c.conl.ensures.ok
