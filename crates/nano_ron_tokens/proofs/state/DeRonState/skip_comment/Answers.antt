use Rattle.std.proofs.Common.{arith, refl, ne_eqb}
use Rattle.nano_text.proofs.RemainingText.{remaining_stop}
use Rattle.nano_text.specs.Place.{remaining}
use Rattle.nano_ron_tokens.proofs.Comments.{line_comment_at, block_comment_at, no_comment_at}
use Rattle.nano_ron_tokens.specs.Breaks.{is_slash, is_star}
use Rattle.nano_ron_tokens.proofs.Scanning.{passed_next, passed_append}
use Rattle.nano_ron_tokens.proofs.state.DeRonState.skip_comment.Goals as goal

pub returns-then-self-eq47-clause-skipped : goal.returns-then-self-eq47-clause-skipped
returns-then-self-eq47-clause-skipped c =
    let cur = c.args.self.now.cur in
    let next = c.next.new.self.cur in
    let last = c.next-then-self-eq47 in
    line_comment_at cur next (remaining cur c.args.i.now) (remaining next c.next.new.i) (remaining last.new.self.cur last.new.i)
    (remaining c.skip_line.new.self.cur c.skip_line.new.i) (c.next.ensures.taken (λ z. omega (arith, z, c.requires))) c.requires
    (last.ensures.taken (λ z. omega (arith, z, c.if-self-eq47.true))) c.if-self-eq47.true c.skip_line.ensures.skipped

pub returns-then-self-eq47-clause-passed : goal.returns-then-self-eq47-clause-passed
returns-then-self-eq47-clause-passed c =
    let e = c.next.ensures in
    let f = c.next-then-self-eq47.ensures in
    passed_append (passed_append (passed_next (e.counts (λ z. omega (arith, z, c.requires))) e.tok e.strbuf e.numbuf e.identbuf)
    (passed_next (f.counts (λ z. omega (arith, z, c.if-self-eq47.true))) f.tok f.strbuf f.numbuf f.identbuf)) c.skip_line.ensures.passed

pub returns-then-self-eq42-clause-skipped : goal.returns-then-self-eq42-clause-skipped
returns-then-self-eq42-clause-skipped c =
    let cur = c.args.self.now.cur in
    let next = c.next.new.self.cur in
    let last = c.next-then-self-eq42 in
    block_comment_at cur next (remaining cur c.args.i.now) (remaining next c.next.new.i) (remaining last.new.self.cur last.new.i)
    (remaining c.skip_block.new.self.cur c.skip_block.new.i) (c.next.ensures.taken (λ z. omega (arith, z, c.requires))) c.requires
    (last.ensures.taken (λ z. omega (arith, z, c.if-self-eq42.true))) c.if-self-eq42.true c.skip_block.ensures.skipped

pub returns-then-self-eq42-clause-passed : goal.returns-then-self-eq42-clause-passed
returns-then-self-eq42-clause-passed c =
    let e = c.next.ensures in
    let f = c.next-then-self-eq42.ensures in
    passed_append (passed_append (passed_next (e.counts (λ z. omega (arith, z, c.requires))) e.tok e.strbuf e.numbuf e.identbuf)
    (passed_next (f.counts (λ z. omega (arith, z, c.if-self-eq42.true))) f.tok f.strbuf f.numbuf f.identbuf)) c.skip_block.ensures.passed

pub returns-clause-skipped : goal.returns-clause-skipped
returns-clause-skipped c =
    let cur = c.args.self.now.cur in
    let next = c.next.new.self.cur in
    let taken = c.next.ensures.taken (λ z. omega (arith, z, c.requires)) in
    let no_line = remaining_stop is_slash next c.next.new.i refl (ne_eqb next 47 c.if-self-eq47.false) in
    let no_block = remaining_stop is_star next c.next.new.i refl (ne_eqb next 42 c.if-self-eq42.false) in (
      no_comment_at cur (remaining cur c.args.i.now) (remaining next c.next.new.i) taken c.requires no_line no_block,
      record { is = rw (taken, c.requires) refl; no_line = no_line; no_block = no_block },
    )

pub returns-clause-passed : goal.returns-clause-passed
returns-clause-passed c = let e = c.next.ensures in passed_next (e.counts (λ z. omega (arith, z, c.requires))) e.tok e.strbuf e.numbuf e.identbuf
