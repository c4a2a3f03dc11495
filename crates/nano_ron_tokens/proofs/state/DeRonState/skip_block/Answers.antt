use Rattle.std.proofs.Common.{◌≡◌, ◌∙◌, ap, refl, false, ne_eqb, arith}
use Rattle.nano_text.proofs.RemainingText.{remaining_end, remaining_stop}
use Rattle.nano_text.specs.Characters.{first_is}
use Rattle.nano_text.specs.Place.{remaining}
use Rattle.nano_ron_tokens.specs.Breaks.{is_slash}
use Rattle.nano_ron_tokens.proofs.Comments.{block_step, block_ends, block_over}
use Rattle.nano_ron_tokens.proofs.Scanning.{passed_none, passed_next, passed_append}
use Rattle.nano_ron_tokens.proofs.state.DeRonState.skip_block.Goals as goal
use Rattle.nano_ron_tokens.proofs.state.DeRonState.skip_block.Goals.{else-star-via-then-star+else-self-eq47}
use Rattle.nano_ron_tokens.proofs.state.DeRonState.skip_block.Goals.{else-star-via-else-star}

pub returns-then-self-eq47-clause-skipped : goal.returns-then-self-eq47-clause-skipped
returns-then-self-eq47-clause-skipped c =
    let cur = c.block.self.cur in
    let next = c.next.new.self.cur in
    let text = remaining cur c.block.i in
    let more = remaining next c.next.new.i in
    let last = c.next-then-self-eq47 in
    let rest = remaining last.new.self.cur last.new.i in
    c.block.invariant.following rest
    (block_ends cur next text more rest (c.next.ensures.taken c.block-test.true) c.if-star.true
    (last.ensures.taken (λ z. omega (arith, z, c.if-self-eq47.true))) c.if-self-eq47.true)

pub returns-then-self-eq47-clause-passed : goal.returns-then-self-eq47-clause-passed
returns-then-self-eq47-clause-passed c =
    let e = c.next.ensures in
    let f = c.next-then-self-eq47.ensures in
    passed_append (passed_append c.block.invariant.passed (passed_next (e.counts c.block-test.true) e.tok e.strbuf e.numbuf e.identbuf))
    (passed_next (f.counts (λ z. omega (arith, z, c.if-self-eq47.true))) f.tok f.strbuf f.numbuf f.identbuf)

pub block-preserved : goal.block-preserved
block-preserved c =
    let e = c.next.ensures in
    let cur = c.block.self.cur in
    let next = c.next.new.self.cur in
    let text = remaining cur c.block.i in
    let more = remaining next c.next.new.i in
    let star : cur ≡ 42 → first_is is_slash more ≡ false = elim c.else-star.branch [
      | else-star-via-then-star+else-self-eq47 w ↦ λ is. remaining_stop is_slash next c.next.new.i refl (ne_eqb next 47 w.if-self-eq47.false)
      | else-star-via-else-star w ↦ λ is. absurd (w.if-star.false is)
    ] in
    record {
      following = λ rest h. c.block.invariant.following rest (block_step cur text more rest (e.taken c.block-test.true) star h);
      passed = passed_append c.block.invariant.passed (passed_next (e.counts c.block-test.true) e.tok e.strbuf e.numbuf e.identbuf);
    }

pub returns-clause-skipped : goal.returns-clause-skipped
returns-clause-skipped c =
    let text = remaining c.block.self.cur c.block.i in
    let none = ap (λ cur. remaining cur c.block.i) c.block-test.false ∙ remaining_end c.block.i in
    c.block.invariant.following text (block_over text none)

pub block-init : goal.block-init
block-init c = record { following = λ rest h. h; passed = passed_none c.args.self.now c.args.i.now }
