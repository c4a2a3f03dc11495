use Rattle.std.proofs.lemmas.Result.{err_from_is_err_and}
use Rattle.nano_bin_bytes.specs.Containers.{EncodesPair}
use Rattle.nano_bin_bytes.proofs.TuplesLaws.{pair_encoding}
use Rattle.nano_bin.proofs.Collecting.{collected_none, collected_put, collected_all, pair_parts}
use Rattle.nano_bin.proofs.Collecting.{uncounted_rejected, collected_rejected, no_pair}
use Rattle.nano_bin.proofs.maps.read_entries.Goals as goal

pub loop-init : goal.loop-init
loop-init g c = collected_none c.empty-entries.ensures

pub loop-preserved : goal.loop-preserved
loop-preserved g c =
    let S = g.K.BinCodec.bin.encoding in
    let R = g.V.BinCodec.bin.encoding in
    collected_put c.loop.invariant (pair_parts S.encodes R.encodes _ _ _ _ _ c.in_ok-key.ensures.ok) c.in-Ok.ensures

pub returns-clause-ok : goal.returns-clause-ok
returns-clause-ok g c =
    collected_all g.C.CollectEntries.whole g.C.Value.means g.met.C.CollectEntries.is_whole c.in_ok-count.ensures.ok c.loop.invariant c.loop.auto.counter-end c.loop-test.false

pub returns-in_err-count-clause-err : goal.returns-in_err-count-clause-err
returns-in_err-count-clause-err g c =
    let S = EncodesPair g.K.BinCodec.bin.encoding.encodes g.V.BinCodec.bin.encoding.encodes in
    let p = err_from_is_err_and c.from_residual.result c.from_residual.ensures.1 in
    rw (p.1, p.2) (uncounted_rejected g.C.CollectEntries.whole S c.in_err-count.ensures.err.none)

pub returns-in_err-key-clause-err : goal.returns-in_err-key-clause-err
returns-in_err-key-clause-err g c =
    let S = g.K.BinCodec.bin.encoding in
    let R = g.V.BinCodec.bin.encoding in
    let p = err_from_is_err_and c.from_residual-in_err-key.result c.from_residual-in_err-key.ensures.1 in
    rw (p.1, p.2) (collected_rejected g.C.CollectEntries.whole (pair_encoding S.laws R.laws) c.in_ok-count.ensures.ok c.loop.invariant c.loop-test.true (no_pair S.encodes R.encodes c.in_err-key.ensures.err))
