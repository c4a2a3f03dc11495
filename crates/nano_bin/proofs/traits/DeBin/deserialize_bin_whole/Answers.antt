use Rattle.std.proofs.Common.{◌++◌}
use Rattle.nano_bin_bytes.proofs.ErrorsLaws.{rejects_now}
use Rattle.nano_bin.proofs.RoundTrip.{whole_decodes, read_before_end, read_trailing}
use Rattle.nano_bin.proofs.RoundTrip.{not_for_memory, may_follow, own_reports, trailing_reports}
use Rattle.nano_bin.proofs.RoundTrip.{whole_rejects_now}
use Rattle.nano_bin.proofs.traits.DeBin.deserialize_bin_whole.Goals as goal

pub returns-then-end-d-clause-more : goal.returns-then-end-d-clause-more
returns-then-end-d-clause-more g c more other fits =
    read_before_end g.Self.BinCodec.bin.encoding.laws c.args.d.now c.de_bin.new.offset _ c.in-Ok.ensures.ok c.if-end-d.true more

pub returns-then-end-d-clause-err : goal.returns-then-end-d-clause-err
returns-then-end-d-clause-err g c =
    whole_rejects_now g.Self.BinCodec.bin.encoding.encodes c.args.d.now c.trailing_bytes.result
    (λ more other fits. read_before_end g.Self.BinCodec.bin.encoding.laws c.args.d.now c.de_bin.new.offset _ c.in-Ok.ensures.ok c.if-end-d.true more)

pub returns-then-end-d-clause-report : goal.returns-then-end-d-clause-report
returns-then-end-d-clause-report g c =
    trailing_reports c.args.d.now c.de_bin.new.offset c.trailing_bytes.result c.trailing_bytes.ensures

pub returns-then-end-d-clause-trailing : goal.returns-then-end-d-clause-trailing
returns-then-end-d-clause-trailing g c _ =
    read_trailing g.Self.BinCodec.bin.encoding.encodes c.args.d.now c.de_bin.new.offset _ c.trailing_bytes.result c.in-Ok.ensures.ok c.if-end-d.true c.trailing_bytes.ensures

pub returns-in-Err-clause-more : goal.returns-in-Err-clause-more
returns-in-Err-clause-more g c more other fits value h =
    let given = c.in-Err.error in
    let is = c.as_value_error.ensures in
    c.in-Err.ensures.err.rejects more (not_for_memory given c.as_value_error.result is other) (may_follow given c.as_value_error.result more is fits) value
    (whole_decodes g.Self.BinCodec.bin.encoding.encodes (c.args.d.now ++ more) value h)

pub returns-in-Err-clause-err : goal.returns-in-Err-clause-err
returns-in-Err-clause-err g c other value h =
    rejects_now g.Self.BinCodec.bin.encoding.encodes c.args.d.now c.in-Err.error c.in-Err.ensures.err.rejects
    (not_for_memory c.in-Err.error c.as_value_error.result c.as_value_error.ensures other) value
    (whole_decodes g.Self.BinCodec.bin.encoding.encodes c.args.d.now value h)

pub returns-in-Err-clause-report : goal.returns-in-Err-clause-report
returns-in-Err-clause-report g c =
    own_reports c.args.d.now 0 c.in-Err.error c.as_value_error.result c.as_value_error.ensures c.in-Err.ensures.err.report

pub returns-in-Err-clause-following : goal.returns-in-Err-clause-following
returns-in-Err-clause-following g c other value f =
    absurd (rejects_now g.Self.BinCodec.bin.encoding.encodes c.args.d.now c.in-Err.error c.in-Err.ensures.err.rejects (not_for_memory c.in-Err.error c.as_value_error.result c.as_value_error.ensures other) value f)
