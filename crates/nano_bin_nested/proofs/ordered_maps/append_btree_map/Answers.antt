use Rattle.std.proofs.Common.{◌∙◌, ◌++◌, ap, append_assoc}
use Rattle.nano_meaning.proofs.AscendingLaws.{ascending-sorted}
use Rattle.nano_meaning.proofs.OrderedMapsLaws.{sorted_entries}
use Rattle.nano_bin_bytes.proofs.CodecLaws.{write_start, write_step, write_end, cut_back}
use Rattle.nano_bin_bytes.proofs.CodecLaws.{cut_back_after, on_err_always}
use Rattle.nano_bin_bytes.specs.Containers.{written_pair}
use Rattle.nano_bin_nested.proofs.ordered_maps.append_btree_map.Goals as goal

pub loop-key-init : goal.loop-key-init
loop-key-init g c =
    let W = written_pair g.K.BinCodec.bin.canonical.written g.T.BinCodec.bin.canonical.written in
    write_start W _ _ _ c.into_iter-key-iterator.ensures.into_iter_gives.0

pub loop-key-preserved : goal.loop-key-preserved
loop-key-preserved g c =
    let K = g.K.BinCodec.bin.canonical.written in
    let V = g.T.BinCodec.bin.canonical.written in
    let key = c.in-Some.key.now in
    let value = c.in-Some.value.now in
    let before = c.loop-key.output.items in
    write_step (written_pair K V) _ before _ _ _ _ (key, value) c.loop-key.invariant c.in-Some.ensures.steps
    (c.in_ok-append_part_within.ensures.ok ∙ (ap (λ l. l ++ V value) c.in_ok-append_part.ensures.ok ∙ append_assoc before (K key) (V value)))

pub returns-in_err-append_part-clause-err : goal.returns-in_err-append_part-clause-err
returns-in_err-append_part-clause-err g c =
    let W = written_pair g.K.BinCodec.bin.canonical.written g.T.BinCodec.bin.canonical.written in
    on_err_always c.from_residual.result (c.in_err-append_part.ensures.err ∙ cut_back W c.args.start c.args.output.now.items c.loop-key.output.items _ c.args.entries.now.entries c.requires c.loop-key.invariant)

pub returns-in_err-append_part_within-clause-err : goal.returns-in_err-append_part_within-clause-err
returns-in_err-append_part_within-clause-err g c =
    let K = g.K.BinCodec.bin.canonical.written in
    let W = written_pair K g.T.BinCodec.bin.canonical.written in
    on_err_always c.from_residual-in_err-append_part_within.result (c.in_err-append_part_within.ensures.err ∙ cut_back_after W c.args.start c.args.output.now.items c.loop-key.output.items c.append_part.new.output.items (K c.in-Some.key.now) _ c.args.entries.now.entries c.requires c.loop-key.invariant c.in_ok-append_part.ensures.ok)

pub returns-clause-ok : goal.returns-clause-ok
returns-clause-ok g c =
    let W = written_pair g.K.BinCodec.bin.canonical.written g.T.BinCodec.bin.canonical.written in
    write_end W _ _ _ _ c.loop-key.invariant c.in-None.ensures.steps.0

pub returns-clause-ordered : goal.returns-clause-ordered
returns-clause-ordered g c =
    let R = g.K.Ord.cmp in
    let entries = c.args.entries.now.entries in
    ascending-sorted g.met.K.Ord.total entries (sorted_entries R entries c.into_iter-key-iterator.ensures.into_iter_gives.5)
