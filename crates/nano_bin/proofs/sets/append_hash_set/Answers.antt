use Rattle.std.proofs.Common.{◌∙◌, ◌++◌, sym, ap, refl}
use Rattle.std.specs.Map.Iter.{deref}
use Rattle.std.proofs.lemmas.List.Folds.{flat_map-map}
use Rattle.nano_bin_bytes.proofs.CodecLaws.{write_start, write_place, write_places, cut_back}
use Rattle.nano_bin_bytes.proofs.CodecLaws.{on_err_always}
use Rattle.nano_bin.proofs.sets.append_hash_set.Goals as goal

pub loop-item-init : goal.loop-item-init
loop-item-init g c = write_start (λ x. g.T.BinCodec.bin.canonical.written (deref x)) c.args.output.now.items c.args.items.now c.args.items.now refl

pub loop-item-preserved : goal.loop-item-preserved
loop-item-preserved g c = write_place (λ x. g.T.BinCodec.bin.canonical.written (deref x)) c.args.output.now.items c.loop-item.output.items c.append_part.new.output.items c.args.items.now c.loop-item.item-index c.item-item.result c.loop-item.invariant c.loop-item-test.true c.item-item.is c.in_ok-append_part.ensures.ok

pub returns-in_err-append_part-clause-err : goal.returns-in_err-append_part-clause-err
returns-in_err-append_part-clause-err g c =
    on_err_always c.from_residual.result (c.in_err-append_part.ensures.err ∙ cut_back (λ x. g.T.BinCodec.bin.canonical.written (deref x)) c.args.start c.args.output.now.items c.loop-item.output.items _ c.args.items.now c.requires c.loop-item.invariant)

pub returns-clause-ok : goal.returns-clause-ok
returns-clause-ok g c =
    let W = g.T.BinCodec.bin.canonical.written in
    let before = c.args.output.now.items in
    let items = c.args.items.now in
    write_places (λ x. W (deref x)) before c.loop-item.output.items items c.loop-item.item-index c.loop-item.invariant c.loop-item-test.false ∙ ap (λ l. before ++ l) (sym (flat_map-map W deref items))
