use Rattle.std.proofs.Common.{[], ◌∷◌, ◌++◌, string_bytes}
use Rattle.std.proofs.lemmas.Result.{on_ok_weaker}
use Rattle.nano_ron_nested.proofs.WrittenLaws.{opened_before, part_before}
use Rattle.nano_ron_nested.proofs.variant_writer.append_pair.Goals as goal

pub returns-clause-ok : goal.returns-clause-ok
returns-clause-ok g c =
    let before = string_bytes c.args.s.now.out in
    let opened = string_bytes c.open_variant.new.s.out in
    let after = string_bytes c.append_last_within.new.s.out in
    let first = g.A.RonCodec.ron.canonical.text c.args.d c.args.first.now in
    let last = g.B.RonCodec.ron.canonical.text c.args.d c.args.second.now ++ 41 ∷ [] in
    on_ok_weaker c.append_last_within.result
    (λ h. opened_before c.args.name.now (first ++ 44 ∷ (32 ∷ last)) before opened after
    c.in_ok-open_variant.ensures.ok
    (part_before first last opened (string_bytes c.append_part_within.new.s.out) after
    c.in_ok-append_part_within.ensures.ok h)) c.append_last_within.ensures.ok
