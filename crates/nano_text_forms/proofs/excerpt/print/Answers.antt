use Rattle.std.proofs.Common.{◌+◌, ◌-◌, [], ◌∷◌, ◌++◌, OnOk, map, take, drop, encode_utf8_all, ap, subst, ◌∙◌}
use Rattle.std.proofs.lemmas.Iterator.{YieldsList-from_chars}
use Rattle.std.proofs.lemmas.Iterator.Consumers.{count_from_yields_List}
use Rattle.std.specs.Io.KnownBytes.{Appends}
use Rattle.std.specs.Str.{chars}
use Rattle.nano_text_forms.specs.Shown.{blank, visible}
use Rattle.nano_text_forms.proofs.ExcerptLemmas.{then_writes, is_excerpt}
use Rattle.nano_text_forms.proofs.excerpt.print.Goals as goal

pub returns : goal.returns
returns g c =
    let contents = g.W.Write.contents in
    let r = c.writeln-2.result in
    let last = contents c.writeln-2.new.self in
    let line = chars c.args.line.now in
    let before = c.args.before in
    let start = c.saturating_sub-start.result in
    let part = encode_utf8_all (map visible (take ((before - start) + 60) (drop start line))) in
    let blanks = map blank (take (before - start) (drop start line)) in
    let count =
    count_from_yields_List c.chars.result c.count.result c.count.ensures.ran
    (YieldsList-from_chars c.args.line.now c.utf8.line c.chars.ensures.rest) in
    let left =
    c.saturating_sub-left_out.ensures
    ∙ ap (λ n. n - ((before - start) + 60)) (c.saturating_sub.ensures ∙ ap (λ n. n - start) count) in
    let same =
    is_excerpt line before start c.saturating_sub-left_out.result c.dots.result.now c.dots-2.result.now c.margin.result.now
    c.saturating_sub-start.ensures left c.dots.ensures c.dots-2.ensures c.margin.ensures in
    subst (λ l. OnOk r (Appends (contents c.args.output.now) last l)) same
    (then_writes r (contents c.args.output.now) (contents c.write.new.self) last c.dots.result.now _ c.in_ok-write.ensures.bytes
    (then_writes r (contents c.write.new.self) (contents c.print_part.new.output) last part _ c.in_ok-print_part.ensures
    (then_writes r (contents c.print_part.new.output) (contents c.writeln.new.self) last (c.dots-2.result.now ++ (10 ∷ [])) _ c.in_ok-writeln.ensures.bytes
    (then_writes r (contents c.writeln.new.self) (contents c.write-2.new.self) last c.margin.result.now _ c.in_ok-write-2.ensures.bytes
    (then_writes r (contents c.write-2.new.self) (contents c.print_blanks.new.output) last blanks _ c.in_ok-print_blanks.ensures
    c.writeln-2.ensures.bytes)))))
