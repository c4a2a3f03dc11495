use Rattle.std.proofs.Common.{◌≡◌, List, ℕ, OnOk, length, subst, refl}
use Rattle.std.proofs.lemmas.Iterator.{YieldsList-from_chars}
use Rattle.std.proofs.lemmas.Iterator.Consumers.{count_from_yields_List}
use Rattle.std.specs.Io.KnownBytes.{Appends}
use Rattle.std.specs.Str.{chars}
use Rattle.nano_text_forms.specs.declared.fault.TextFault.{TextFault}
use Rattle.nano_text_forms.specs.Shown.{row_of, before_of, line_of, shown_at, shown}
use Rattle.nano_text_forms.proofs.fault.TextFault.show.Goals as goal

is_shown : (fault : TextFault) (name text line : List ℕ) (row count before : ℕ) → row ≡ row_of fault.line fault.column
    → line ≡ line_of text row → count ≡ length (chars line) → before ≡ before_of fault.line fault.column count
    → shown_at fault.words name row (chars line) before ≡ shown fault name text
is_shown fault name text line row count before is_row is_line is_count is_before =
    rw (is_before, is_count, is_line, is_row) refl

pub returns : goal.returns
returns g c =
    let line = c.line_at-line.result.now in
    let count =
    count_from_yields_List c.chars.result c.count.result c.count.ensures.ran
    (YieldsList-from_chars line c.line_at-line.utf8 c.chars.ensures.rest) in
    let same =
    is_shown c.args.self.now c.args.name.now c.args.text.now line c.row-row.result c.count.result c.before-before.result
    c.row-row.ensures c.line_at-line.ensures count c.before-before.ensures in
    subst (λ l. OnOk c.print.result (Appends (g.W.Write.contents c.args.output.now) (g.W.Write.contents c.print.new.output) l))
    same c.print.ensures
