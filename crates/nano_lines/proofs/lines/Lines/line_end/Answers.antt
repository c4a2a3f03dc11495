use Rattle.std.proofs.Common.{refl, []}
use Rattle.std.proofs.lemmas.Result.{err_from_is_err_and, IfOk-weaker, IfErr-weaker}
use Rattle.nano_lines.proofs.LeftLemmas.{keeps_searched, takes-trans, finds-after, finds_none-after, read_fails}
use Rattle.nano_lines.proofs.lines.Lines.line_end.Goals as goal

pub returns-in_err-pass_limit-clause-err : goal.returns-in_err-pass_limit-clause-err
returns-in_err-pass_limit-clause-err g c =
    let known = g.R.Read.remaining in
    let searched = record c.reads.self { buffer = c.line_feed.new.self } in
    let unchanged = keeps_searched known c.reads.self searched refl refl refl refl c.line_feed.ensures.bytes c.line_feed.ensures.offset in
    let before = takes-trans known c.args.self.now c.reads.self searched [] [] c.reads.invariant unchanged in
    let p = err_from_is_err_and c.from_residual.result c.from_residual.ensures.1 in
    rw (p.1, p.2) (finds_none-after known c.args.self.now searched c.pass_limit.new.self _ before c.in_err-pass_limit.ensures.err)

pub returns-in_err-fill-clause-err : goal.returns-in_err-fill-clause-err
returns-in_err-fill-clause-err g c =
    let known = g.R.Read.remaining in
    let searched = record c.reads.self { buffer = c.line_feed.new.self } in
    let unchanged = keeps_searched known c.reads.self searched refl refl refl refl c.line_feed.ensures.bytes c.line_feed.ensures.offset in
    let before = takes-trans known c.args.self.now c.reads.self searched [] [] c.reads.invariant unchanged in
    let forgotten = takes-trans known c.args.self.now searched c.forget_long.new.self [] [] before c.forget_long.ensures.unchanged in
    let p = err_from_is_err_and c.from_residual-in_err-fill.result c.from_residual-in_err-fill.ensures.1 in
    rw (p.1, p.2) (read_fails known c.args.self.now c.forget_long.new.self c.fill.new.self _ forgotten c.in_err-fill.ensures.err)

pub returns-then-branch-eq0-clause-ok : goal.returns-then-branch-eq0-clause-ok
returns-then-branch-eq0-clause-ok g c =
    let known = g.R.Read.remaining in
    let searched = record c.reads.self { buffer = c.line_feed.new.self } in
    let unchanged = keeps_searched known c.reads.self searched refl refl refl refl c.line_feed.ensures.bytes c.line_feed.ensures.offset in
    let before = takes-trans known c.args.self.now c.reads.self searched [] [] c.reads.invariant unchanged in
    let forgotten = takes-trans known c.args.self.now searched c.forget_long.new.self [] [] before c.forget_long.ensures.unchanged in
    let read = takes-trans known c.args.self.now c.forget_long.new.self c.fill.new.self [] [] forgotten c.in_ok-fill.ensures.ok.unchanged in
    IfOk-weaker c.last_line.result _ _
    (λ found h. finds-after known c.args.self.now c.fill.new.self c.last_line.new.self found read h) c.last_line.ensures.ok

pub returns-then-branch-eq0-clause-err : goal.returns-then-branch-eq0-clause-err
returns-then-branch-eq0-clause-err g c =
    let known = g.R.Read.remaining in
    let searched = record c.reads.self { buffer = c.line_feed.new.self } in
    let unchanged = keeps_searched known c.reads.self searched refl refl refl refl c.line_feed.ensures.bytes c.line_feed.ensures.offset in
    let before = takes-trans known c.args.self.now c.reads.self searched [] [] c.reads.invariant unchanged in
    let forgotten = takes-trans known c.args.self.now searched c.forget_long.new.self [] [] before c.forget_long.ensures.unchanged in
    let read = takes-trans known c.args.self.now c.forget_long.new.self c.fill.new.self [] [] forgotten c.in_ok-fill.ensures.ok.unchanged in
    IfErr-weaker c.last_line.result _ _
    (λ fault h. finds_none-after known c.args.self.now c.fill.new.self c.last_line.new.self fault read h) c.last_line.ensures.err

pub reads-preserved : goal.reads-preserved
reads-preserved g c =
    let known = g.R.Read.remaining in
    let searched = record c.reads.self { buffer = c.line_feed.new.self } in
    let unchanged = keeps_searched known c.reads.self searched refl refl refl refl c.line_feed.ensures.bytes c.line_feed.ensures.offset in
    let before = takes-trans known _ c.reads.self searched [] [] c.reads.invariant unchanged in
    let forgotten = takes-trans known _ searched c.forget_long.new.self [] [] before c.forget_long.ensures.unchanged in
    takes-trans known _ c.forget_long.new.self c.fill.new.self [] [] forgotten c.in_ok-fill.ensures.ok.unchanged
