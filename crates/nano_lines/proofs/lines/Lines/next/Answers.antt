use Rattle.std.proofs.Common.{ap, ◌≡◌, List, ℕ, slice_range, refl}
use Rattle.std.proofs.lemmas.Result.{err_from_is_err_and}
use Rattle.nano_lines.specs.Lines.{HoldsValue}
use Rattle.nano_lines.specs.Reads.{RejectsLine, IsNoText}
use Rattle.nano_lines.proofs.NextLemmas.{blanks-unchanged, takes_next, takes_blank, takes_all, faults, of_stream}
use Rattle.nano_lines.proofs.NextLemmas.{read_blank, read_value, read_bad, read_no_text}
use Rattle.nano_lines.proofs.lines.Lines.next.Goals as goal

pub returns-in_err-end-clause-err : goal.returns-in_err-end-clause-err
returns-in_err-end-clause-err g c =
    let p = err_from_is_err_and c.from_residual.result c.from_residual.ensures.1 in
    rw (p.1, p.2) (faults g.R.Read.remaining g.T.JsonCodec.json.encoding.encodes c.args.self.now c.lines.self
    c.line_end.new.self _ c.lines.invariant c.in_err-end.ensures.err)

pub returns-in_default-clause-ok : goal.returns-in_default-clause-ok
returns-in_default-clause-ok g c =
    takes_all g.R.Read.remaining g.T.JsonCodec.json.encoding.encodes g.T.Value.means c.args.self.now c.lines.self
    c.line_end.new.self c.lines.invariant (rw c.in_default.is at c.in_ok-end.ensures.ok)

pub returns-in_err-line-clause-err : goal.returns-in_err-line-clause-err
returns-in_err-line-clause-err g c =
    let p = err_from_is_err_and c.from_residual-in_err-line.result c.from_residual-in_err-line.ensures.1 in
    let before = blanks-unchanged g.R.Read.remaining c.args.self.now c.lines.self c.line_end.new.self c.lines.invariant c.in_ok-end.ensures.ok.unchanged in
    rw (p.1, p.2) (of_stream g.R.Read.remaining g.T.JsonCodec.json.encoding.encodes c.args.self.now c.line_end.new.self _ before
    c.in_err-line.ensures.err)

pub returns-in-Value-clause-ok : goal.returns-in-Value-clause-ok
returns-in-Value-clause-ok g c =
    let encodes = g.T.JsonCodec.json.encoding.encodes in
    let at = c.line_end.new.self in
    let end = c.in-Some.end in
    let before = blanks-unchanged g.R.Read.remaining c.args.self.now c.lines.self at c.lines.invariant c.in_ok-end.ensures.ok.unchanged in
    let found = rw c.in-Some.is at c.in_ok-end.ensures.ok in
    let same = ap (λ (l : List ℕ). slice_range l at.buffer.offset end) c.deref.ensures.value in (
      c.take_line.ensures.whole,
      takes_next g.R.Read.remaining c.args.self.now at c.take_line.new.self end before found.whole found.is.1 c.take_line.ensures
          (λ _ line. HoldsValue encodes line (g.T.Value.means c.in-Value.value))
          (read_value encodes g.T.Value.means _ _ same at.number c.in_ok-line.line c.in-Value.value c.in_ok-line.ensures.ok c.in-Value.is),
    )

pub returns-in-Bad-clause-err : goal.returns-in-Bad-clause-err
returns-in-Bad-clause-err g c =
    let encodes = g.T.JsonCodec.json.encoding.encodes in
    let at = c.line_end.new.self in
    let end = c.in-Some.end in
    let before = blanks-unchanged g.R.Read.remaining c.args.self.now c.lines.self at c.lines.invariant c.in_ok-end.ensures.ok.unchanged in
    let found = rw c.in-Some.is at c.in_ok-end.ensures.ok in
    let same = ap (λ (l : List ℕ). slice_range l at.buffer.offset end) c.deref.ensures.value in
    takes_next g.R.Read.remaining c.args.self.now at c.take_line.new.self end before found.whole found.is.1 c.take_line.ensures
    (λ number line. RejectsLine encodes line number c.in-Bad.error c.in-Bad.text)
    (read_bad encodes g.T.Value.means _ _ same at.number c.in_ok-line.line c.in-Bad.error c.in-Bad.text c.in_ok-line.ensures.ok c.in-Bad.is)

pub returns-in-NotUtf8-clause-err : goal.returns-in-NotUtf8-clause-err
returns-in-NotUtf8-clause-err g c =
    let encodes = g.T.JsonCodec.json.encoding.encodes in
    let at = c.line_end.new.self in
    let end = c.in-Some.end in
    let before = blanks-unchanged g.R.Read.remaining c.args.self.now c.lines.self at c.lines.invariant c.in_ok-end.ensures.ok.unchanged in
    let found = rw c.in-Some.is at c.in_ok-end.ensures.ok in
    let same = ap (λ (l : List ℕ). slice_range l at.buffer.offset end) c.deref.ensures.value in
    takes_next g.R.Read.remaining c.args.self.now at c.take_line.new.self end before found.whole found.is.1 c.take_line.ensures
    (λ n line. (at.number ≡ n) × IsNoText line)
    (refl, read_no_text encodes g.T.Value.means _ _ same at.number c.in_ok-line.line c.in_ok-line.ensures.ok c.in-NotUtf8.is)

pub lines-preserved : goal.lines-preserved
lines-preserved g c =
    let encodes = g.T.JsonCodec.json.encoding.encodes in
    let at = c.line_end.new.self in
    let end = c.in-Some.end in
    let before = blanks-unchanged g.R.Read.remaining c.args.self.now c.lines.self at c.lines.invariant c.in_ok-end.ensures.ok.unchanged in
    let found = rw c.in-Some.is at c.in_ok-end.ensures.ok in
    let same = ap (λ (l : List ℕ). slice_range l at.buffer.offset end) c.deref.ensures.value in
    takes_blank g.R.Read.remaining c.args.self.now at c.take_line.new.self end before found.whole found.is.1 c.take_line.ensures
    (read_blank encodes g.T.Value.means _ _ same at.number c.in_ok-line.line c.in_ok-line.ensures.ok c.in-Blank.is)
