use Rattle.std.proofs.Common.{◌∙◌, ap}
use Rattle.nano_text.proofs.RemainingText.{remaining_end}
use Rattle.nano_text.specs.Place.{remaining}
use Rattle.nano_ron_tokens.proofs.Comments.{line_step, line_ends, line_over}
use Rattle.nano_ron_tokens.proofs.Scanning.{passed_none, passed_next, passed_append}
use Rattle.nano_ron_tokens.proofs.state.DeRonState.skip_line.Goals as goal

pub returns-then-ends-clause-skipped : goal.returns-then-ends-clause-skipped
returns-then-ends-clause-skipped c =
    let cur = c.line.self.cur in
    let text = remaining cur c.line.i in
    let rest = remaining c.next.new.self.cur c.next.new.i in
    c.line.invariant.following rest (line_ends cur text rest (c.next.ensures.taken c.line-test.true) c.if-ends.true)

pub returns-then-ends-clause-passed : goal.returns-then-ends-clause-passed
returns-then-ends-clause-passed c =
    let e = c.next.ensures in
    passed_append c.line.invariant.passed (passed_next (e.counts c.line-test.true) e.tok e.strbuf e.numbuf e.identbuf)

pub line-preserved : goal.line-preserved
line-preserved c =
    let e = c.next.ensures in
    let cur = c.line.self.cur in
    let text = remaining cur c.line.i in
    let more = remaining c.next.new.self.cur c.next.new.i in
    record {
      following = λ rest h. c.line.invariant.following rest (line_step cur text more rest (e.taken c.line-test.true) c.if-ends.false h);
      passed = passed_append c.line.invariant.passed (passed_next (e.counts c.line-test.true) e.tok e.strbuf e.numbuf e.identbuf);
    }

pub returns-clause-skipped : goal.returns-clause-skipped
returns-clause-skipped c =
    let text = remaining c.line.self.cur c.line.i in
    let none = ap (λ cur. remaining cur c.line.i) c.line-test.false ∙ remaining_end c.line.i in
    c.line.invariant.following text (line_over text none)

pub line-init : goal.line-init
line-init c = record { following = λ rest h. h; passed = passed_none c.args.self.now c.args.i.now }
