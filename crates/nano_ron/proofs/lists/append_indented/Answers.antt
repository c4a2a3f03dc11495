use Rattle.std.proofs.Common.{string_bytes}
use Rattle.std.proofs.lemmas.Result.{on_ok_weaker}
use Rattle.nano_text.specs.Place.{saturating_next}
use Rattle.nano_ron.proofs.Canonical.{indented_written, indented_in_list}
use Rattle.nano_ron.proofs.lists.append_indented.Goals as goal

pub returns-clause-ok : goal.returns-clause-ok
returns-clause-ok g c =
    let level = saturating_next c.args.d in
    let mid = string_bytes c.append_comma.new.s.out in
    let after = string_bytes c.ser_ron.new.s.out in
    on_ok_weaker c.ser_ron.result (λ last. indented_in_list (string_bytes c.args.s.now.out) mid after (g.T.RonCodec.ron.canonical.text level c.args.item.now) c.args.d c.args.first c.in_ok-append_comma.ensures.ok (indented_written mid (string_bytes c.indent.new.self.out) after c.saturating_add-inner.result level (λ n. g.T.RonCodec.ron.canonical.text n c.args.item.now) c.saturating_add-inner.ensures c.in_ok-indent.ensures.ok last)) c.ser_ron.ensures.ok
