use Rattle.std.proofs.lemmas.Result.{err_from_is_err_and}
use Rattle.nano_bin.proofs.Collecting.{collected_none, collected_put, collected_all}
use Rattle.nano_bin.proofs.Collecting.{uncounted_rejected, collected_rejected}
use Rattle.nano_bin.proofs.Readers.{unsigned_reads, unsigned_rejected}
use Rattle.nano_bin_nested.proofs.lists.read_items.Goals as goal

pub loop-init : goal.loop-init
loop-init g c = collected_none c.empty-items.ensures

pub loop-preserved : goal.loop-preserved
loop-preserved g c = collected_put c.loop.invariant c.in_ok-item.ensures.ok c.in-Ok.ensures

pub returns-clause-ok : goal.returns-clause-ok
returns-clause-ok g c =
    collected_all g.C.Collect.whole g.C.Value.means g.met.C.Collect.is_whole (unsigned_reads 8 _ _ _ _ c.in_ok-count.ensures.ok) c.loop.invariant c.loop.auto.counter-end c.loop-test.false

pub returns-in_err-count-clause-err : goal.returns-in_err-count-clause-err
returns-in_err-count-clause-err g c =
    let p = err_from_is_err_and c.from_residual.result c.from_residual.ensures.1 in
    rw (p.1, p.2) (uncounted_rejected g.C.Collect.whole g.T.BinCodec.bin.encoding.encodes (unsigned_rejected 8 c.in_err-count.ensures.err.none))

pub returns-in_err-item-clause-err : goal.returns-in_err-item-clause-err
returns-in_err-item-clause-err g c =
    let p = err_from_is_err_and c.from_residual-in_err-item.result c.from_residual-in_err-item.ensures.1 in
    rw (p.1, p.2) (collected_rejected g.C.Collect.whole g.T.BinCodec.bin.encoding.laws (unsigned_reads 8 _ _ _ _ c.in_ok-count.ensures.ok) c.loop.invariant c.loop-test.true c.in_err-item.ensures.err)
