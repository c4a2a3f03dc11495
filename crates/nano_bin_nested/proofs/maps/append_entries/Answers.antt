use Rattle.std.proofs.Common.{◌∙◌, ◌++◌, sym, ap, append_assoc, refl}
use Rattle.std.specs.Map.Iter.{deref_pair}
use Rattle.std.proofs.lemmas.List.Folds.{flat_map-map}
use Rattle.nano_bin_bytes.proofs.CodecLaws.{write_start, write_place, write_places, cut_back}
use Rattle.nano_bin_bytes.proofs.CodecLaws.{cut_back_after, on_err_always}
use Rattle.nano_bin_bytes.specs.Containers.{written_pair}
use Rattle.nano_bin_nested.proofs.maps.append_entries.Goals as goal

pub loop-key-init : goal.loop-key-init
loop-key-init g c =
    let W = written_pair g.K.BinCodec.bin.canonical.written g.T.BinCodec.bin.canonical.written in
    write_start (λ e. W (deref_pair e)) c.args.output.now.items c.args.entries.now c.args.entries.now refl

pub loop-key-preserved : goal.loop-key-preserved
loop-key-preserved g c =
    let K = g.K.BinCodec.bin.canonical.written in
    let V = g.T.BinCodec.bin.canonical.written in
    let item = c.loop-key-item.result in
    let before = c.loop-key.output.items in
    write_place (λ e. written_pair K V (deref_pair e)) c.args.output.now.items before c.append_part_within.new.output.items c.args.entries.now c.loop-key.key-index item c.loop-key.invariant c.loop-key-test.true c.loop-key-item.is
    (c.in_ok-append_part_within.ensures.ok ∙ (ap (λ l. l ++ V item.1.now) c.in_ok-append_part.ensures.ok ∙ append_assoc before (K item.0.now) (V item.1.now)))

pub returns-in_err-append_part-clause-err : goal.returns-in_err-append_part-clause-err
returns-in_err-append_part-clause-err g c =
    let W = written_pair g.K.BinCodec.bin.canonical.written g.T.BinCodec.bin.canonical.written in
    on_err_always c.from_residual.result (c.in_err-append_part.ensures.err ∙ cut_back (λ e. W (deref_pair e)) c.args.start c.args.output.now.items c.loop-key.output.items _ c.args.entries.now c.requires c.loop-key.invariant)

pub returns-in_err-append_part_within-clause-err : goal.returns-in_err-append_part_within-clause-err
returns-in_err-append_part_within-clause-err g c =
    let K = g.K.BinCodec.bin.canonical.written in
    let W = written_pair K g.T.BinCodec.bin.canonical.written in
    on_err_always c.from_residual-in_err-append_part_within.result (c.in_err-append_part_within.ensures.err ∙ cut_back_after (λ e. W (deref_pair e)) c.args.start c.args.output.now.items c.loop-key.output.items c.append_part.new.output.items (K c.loop-key-item.result.0.now) _ c.args.entries.now c.requires c.loop-key.invariant c.in_ok-append_part.ensures.ok)

pub returns-clause-ok : goal.returns-clause-ok
returns-clause-ok g c =
    let W = written_pair g.K.BinCodec.bin.canonical.written g.T.BinCodec.bin.canonical.written in
    let before = c.args.output.now.items in
    let entries = c.args.entries.now in
    write_places (λ e. W (deref_pair e)) before c.loop-key.output.items entries c.loop-key.key-index c.loop-key.invariant c.loop-key-test.false ∙ ap (λ l. before ++ l) (sym (flat_map-map W deref_pair entries))
