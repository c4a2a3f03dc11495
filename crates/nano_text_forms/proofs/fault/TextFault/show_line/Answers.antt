use Rattle.std.proofs.Common.{◌≡◌, List, ℕ, OnOk, length, refl, subst}
use Rattle.std.proofs.lemmas.Iterator.{YieldsList-from_chars}
use Rattle.std.proofs.lemmas.Iterator.Consumers.{count_from_yields_List}
use Rattle.std.specs.Io.KnownBytes.{Appends}
use Rattle.std.specs.Str.{chars}
use Rattle.nano_text_forms.specs.declared.fault.TextFault.{TextFault}
use Rattle.nano_text_forms.specs.Shown.{within, shown_at, shown_of_line}
use Rattle.nano_text_forms.proofs.fault.TextFault.show_line.Goals as goal

is_shown : (fault : TextFault) (name line : List ℕ) (count before : ℕ) → count ≡ length (chars line)
    → before ≡ within fault.column count
    → shown_at fault.words name fault.line (chars line) before ≡ shown_of_line fault name line
is_shown fault name line count before is_count is_before = rw (is_before, is_count) refl

pub returns : goal.returns
returns g c =
    let line = c.args.line.now in
    let count =
    count_from_yields_List c.chars.result c.count.result c.count.ensures.ran
    (YieldsList-from_chars line c.utf8.line c.chars.ensures.rest) in
    let same =
    is_shown c.args.self.now c.args.name.now line c.count.result c.within-before.result count c.within-before.ensures in
    subst (λ l. OnOk c.print.result (Appends (g.W.Write.contents c.args.output.now) (g.W.Write.contents c.print.new.output) l))
    same c.print.ensures
