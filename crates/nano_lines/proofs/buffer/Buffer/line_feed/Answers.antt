use Rattle.std.proofs.Common.{arith, refl}
use Rattle.nano_lines.proofs.FeedLemmas.{found_within, found_before, none_found, feed_at, no_feed_left}
use Rattle.nano_lines.proofs.buffer.Buffer.line_feed.Goals as goal

pub invariant_of-self : goal.invariant_of-self
invariant_of-self c =
    let b = c.args.self.now in
    let first = c.in-Some.ensures in
    let within = found_within b.bytes.items c.deref.result.now c.deref.ensures.value b.offset b.searched b.begun b.within b.unbroken
    c.in-Some.distance first.0.high in
    record {
      begun = (let begun = b.begun in omega (arith, begun));
      within = omega (arith, within);
      unbroken =
          found_before b.bytes.items c.deref.result.now c.deref.ensures.value b.offset b.searched b.begun b.within b.unbroken
          c.in-Some.distance first.0.before;
      capacity = b.capacity;
    }

pub invariant_of-self-in-None : goal.invariant_of-self-in-None
invariant_of-self-in-None c =
    let b = c.args.self.now in
    record {
      begun = (let begun = b.begun in let within = b.within in omega (arith, begun, within, c.len-self.ensures));
      within = omega (arith, c.len-self.ensures);
      unbroken = λ k from below.
          none_found b.bytes.items c.deref.result.now c.deref.ensures.value b.offset b.searched b.begun b.within b.unbroken
          c.in-None.ensures k from (omega (arith, below, c.len-self.ensures));
      capacity = b.capacity;
    }

pub returns-in-Some-clause-some : goal.returns-in-Some-clause-some
returns-in-Some-clause-some c =
    let b = c.args.self.now in
    let first = c.in-Some.ensures in
    feed_at b.bytes.items c.deref.result.now c.deref.ensures.value b.offset b.searched b.begun b.within b.unbroken
    _ c.in-Some.distance refl refl first.0.high first.0.before first.1

pub returns-in-None-clause-none : goal.returns-in-None-clause-none
returns-in-None-clause-none c =
    let b = c.args.self.now in
    no_feed_left b.bytes.items c.deref.result.now c.deref.ensures.value b.offset b.searched b.begun b.within b.unbroken c.in-None.ensures
