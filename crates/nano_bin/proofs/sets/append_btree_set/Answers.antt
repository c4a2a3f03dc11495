use Rattle.std.proofs.Common.{◌∙◌, ap}
use Rattle.std.specs.Map.{keys_of}
use Rattle.nano_meaning.proofs.AscendingLaws.{ascending-sorted}
use Rattle.nano_meaning.proofs.OrderedSetsLaws.{sorted_marked}
use Rattle.nano_value.specs.Sets.{marked}
use Rattle.nano_meaning.proofs.SetsLaws.{keys_of-marked}
use Rattle.nano_bin_bytes.proofs.CodecLaws.{write_start, write_step, write_end, cut_back}
use Rattle.nano_bin_bytes.proofs.CodecLaws.{on_err_always}
use Rattle.nano_bin.proofs.sets.append_btree_set.Goals as goal

pub loop-item-init : goal.loop-item-init
loop-item-init g c = write_start g.T.BinCodec.bin.canonical.written _ _ _ c.into_iter-item-iterator.ensures.into_iter_gives.0

pub loop-item-preserved : goal.loop-item-preserved
loop-item-preserved g c = write_step g.T.BinCodec.bin.canonical.written _ _ _ _ _ _ c.in-Some.item.now c.loop-item.invariant c.in-Some.ensures.steps c.in_ok-append_part.ensures.ok

pub returns-in_err-append_part-clause-err : goal.returns-in_err-append_part-clause-err
returns-in_err-append_part-clause-err g c =
    on_err_always c.from_residual.result (c.in_err-append_part.ensures.err ∙ cut_back g.T.BinCodec.bin.canonical.written _ _ _ _ _ c.requires c.loop-item.invariant)

pub returns-clause-ok : goal.returns-clause-ok
returns-clause-ok g c = write_end g.T.BinCodec.bin.canonical.written _ _ _ _ c.loop-item.invariant c.in-None.ensures.steps.0

pub returns-clause-ordered : goal.returns-clause-ordered
returns-clause-ordered g c =
    let R = g.T.Ord.cmp in
    let sorted = c.into_iter-item-iterator.ensures.into_iter_gives.4 in
    ap keys_of (ascending-sorted g.met.T.Ord.total (marked c.args.items.now.keys) (sorted_marked R c.args.items.now.keys sorted)) ∙ keys_of-marked c.args.items.now.keys
