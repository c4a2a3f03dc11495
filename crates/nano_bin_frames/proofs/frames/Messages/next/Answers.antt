use Rattle.std.proofs.Common.{◌≡◌, List, ℕ, Err, drop, ap, sym, subst, ◌∙◌}
use Rattle.std.proofs.KnownBytes.{Keeps-trans}
use Rattle.std.proofs.lemmas.Result.{err_from_is_err_and}
use Rattle.nano_bin_frames.specs.declared.error.Fault.TheVariants.{Cut, Bad}
use Rattle.nano_bin_frames.specs.Frames.{DecodesAfter, RejectsCode}
use Rattle.nano_bin_frames.specs.Left.{left}
use Rattle.nano_bin_frames.proofs.FrameLemmas.{holds_no_message, rejects_frame, refilled, is_cut}
use Rattle.nano_bin_frames.proofs.FrameLemmas.{drop_some}
use Rattle.nano_bin_frames.proofs.frames.Messages.next.Goals as goal

pub returns-in_err-message-clause-err : goal.returns-in_err-message-clause-err
returns-in_err-message-clause-err g c =
    let encodes = g.T.BinCodec.bin.encoding.encodes in
    let known = g.R.Read.remaining c.reads.self.input in
    let same_buffers = c.reads.invariant in
    let fault = c.in_err-message.ensures.err in
    let p = err_from_is_err_and c.from_residual-in_err-message.result c.from_residual-in_err-message.ensures.1 in
    rw (p.1, p.2) (record {
      cut = λ is. absurd (fault.not_cut is);
      bad = λ error is.
          let r = fault.bad error is in
          holds_no_message encodes _ known c.reads.self.bytes.items
          c.in-Some.code.items c.reads.self.offset c.in-Some.end same_buffers.unread (rw c.in-Some.is at c.in_ok-code.ensures.some)
          (λ m s. r.rejects r.not_memory m (subst (λ (l : List ℕ). encodes l m) (sym c.deref.ensures.value) s));
      rejected = λ error is.
          rejects_frame encodes _ known error c.reads.self.bytes.items
          c.in-Some.code.items c.reads.self.offset c.in-Some.end same_buffers.unread (rw c.in-Some.is at c.in_ok-code.ensures.some)
          (subst (λ (l : List ℕ). RejectsCode encodes l error) c.deref.ensures.value (fault.bad error is));
      unchanged = same_buffers.unread;
      size = same_buffers.size;
    })

pub returns-in_err-ended-clause-err : goal.returns-in_err-ended-clause-err
returns-in_err-ended-clause-err g c =
    let before = c.reads.self in
    let after = c.fill.new.self in
    let old = drop before.offset before.bytes.items in
    let new = drop after.offset after.bytes.items in
    let known = g.R.Read.remaining before.input in
    let rest = g.R.Read.remaining after.input in
    let same_buffers = c.reads.invariant in
    let read = subst (DecodesAfter known rest old new) c.if-count-eq0.true c.in_ok-count.ensures.ok in
    let some = c.in_err-ended.ensures.cut.0 (ap Err c.in_err-ended.ensures.only) in
    let p = err_from_is_err_and c.from_residual-in_err-ended.result c.from_residual-in_err-ended.ensures.1 in
    rw (p.1, p.2) (record {
      cut = λ _.
          is_cut known rest old new read _ same_buffers.unread (drop_some after.offset after.bytes.items some)
          (rw c.in_default.is at c.in_ok-code.ensures.none);
      bad = λ error is. absurd (let e : Cut ≡ Bad error = sym c.in_err-ended.ensures.only ∙ is in cc);
      rejected = λ error is. absurd (let e : Cut ≡ Bad error = sym c.in_err-ended.ensures.only ∙ is in cc);
      unchanged = Keeps-trans _ (left g.R.Read.remaining before) _ same_buffers.unread (refilled _ _ _ _ _ c.in_ok-count.ensures.ok);
      size = c.in_ok-count.ensures.size ∙ same_buffers.size;
    })

pub reads-preserved : goal.reads-preserved
reads-preserved g c = record {
  unread = Keeps-trans _ (left g.R.Read.remaining c.reads.self) _ c.reads.invariant.unread (refilled _ _ _ _ _ c.in_ok-count.ensures.ok);
  size = c.in_ok-count.ensures.size ∙ c.reads.invariant.size;
}
