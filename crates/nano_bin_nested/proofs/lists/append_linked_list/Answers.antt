use Rattle.std.proofs.Common.{◌∙◌}
use Rattle.nano_bin_bytes.proofs.CodecLaws.{write_start, write_step, write_end, cut_back}
use Rattle.nano_bin_bytes.proofs.CodecLaws.{on_err_always}
use Rattle.nano_bin_nested.proofs.lists.append_linked_list.Goals as goal

pub loop-item-init : goal.loop-item-init
loop-item-init g c = write_start g.T.BinCodec.bin.canonical.written _ _ _ c.into_iter-item-iterator.ensures.into_iter_gives.0

pub loop-item-preserved : goal.loop-item-preserved
loop-item-preserved g c = write_step g.T.BinCodec.bin.canonical.written _ _ _ _ _ _ c.in-Some.item.now c.loop-item.invariant c.in-Some.ensures.steps c.in_ok-append_part_within.ensures.ok

pub returns-in_err-append_part_within-clause-err : goal.returns-in_err-append_part_within-clause-err
returns-in_err-append_part_within-clause-err g c =
    on_err_always c.from_residual.result (c.in_err-append_part_within.ensures.err ∙ cut_back g.T.BinCodec.bin.canonical.written _ _ _ _ _ c.requires c.loop-item.invariant)

pub returns-clause-ok : goal.returns-clause-ok
returns-clause-ok g c = write_end g.T.BinCodec.bin.canonical.written _ _ _ _ c.loop-item.invariant c.in-None.ensures.steps.0
