use Rattle.std.proofs.Common.{[], ◌∷◌, ◌++◌, string_bytes}
use Rattle.std.proofs.lemmas.Result.{on_ok_weaker}
use Rattle.nano_ron_nested.proofs.WrittenLaws.{opened_before, part_before}
use Rattle.nano_ron_nested.proofs.variant_writer.append_triple.Goals as goal

pub returns-clause-ok : goal.returns-clause-ok
returns-clause-ok g c =
    let before = string_bytes c.args.s.now.out in
    let opened = string_bytes c.open_variant.new.s.out in
    let middle = string_bytes c.append_part_within.new.s.out in
    let later = string_bytes c.append_part_within-2.new.s.out in
    let after = string_bytes c.append_last_within.new.s.out in
    let first = g.A.RonCodec.ron.canonical.text c.args.d c.args.first.now in
    let second = g.B.RonCodec.ron.canonical.text c.args.d c.args.second.now in
    let last = g.C.RonCodec.ron.canonical.text c.args.d c.args.third.now ++ 41 ∷ [] in
    let rest = second ++ 44 ∷ (32 ∷ last) in
    on_ok_weaker c.append_last_within.result
    (λ h. opened_before c.args.name.now (first ++ 44 ∷ (32 ∷ rest)) before opened after
    c.in_ok-open_variant.ensures.ok
    (part_before first rest opened middle after c.in_ok-append_part_within.ensures.ok
    (part_before second last middle later after c.in_ok-append_part_within-2.ensures.ok h)))
    c.append_last_within.ensures.ok
