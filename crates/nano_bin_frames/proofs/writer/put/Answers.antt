use Rattle.std.proofs.Common.{arith, rules, ◌∙◌}
use Rattle.std.proofs.lemmas.Grind.{common_steps}
use Rattle.std.proofs.lemmas.Result.{err_from_is_err_and}
use Rattle.nano_bin_frames.specs.Frames.{frame_of}
use Rattle.nano_bin_frames.proofs.FrameLemmas.{writes_frame, WritesUpTo-nothing, frame_has_bytes}
use Rattle.nano_bin_frames.proofs.writer.put.Goals as goal

pub returns-in_err-code-clause-err : goal.returns-in_err-code-clause-err
returns-in_err-code-clause-err g c =
    let frame = frame_of (g.T.BinCodec.bin.canonical.written c.args.message.now) in
    let p = err_from_is_err_and c.from_residual.result c.from_residual.ensures.1 in
    rw p.1 (record {
      rest = frame;
      some = frame_has_bytes (g.T.BinCodec.bin.canonical.written c.args.message.now);
      written = WritesUpTo-nothing (g.W.Write.contents c.args.output.now) frame;
      retried = first_of (search rules, cc, grind (arith, common_steps, p.2));
    })

pub returns-in_err-frame-clause-err : goal.returns-in_err-frame-clause-err
returns-in_err-frame-clause-err g c =
    let frame = frame_of (g.T.BinCodec.bin.canonical.written c.args.message.now) in
    let p = err_from_is_err_and c.from_residual-in_err-frame.result c.from_residual-in_err-frame.ensures.1 in
    rw p.1 (record {
      rest = frame;
      some = frame_has_bytes (g.T.BinCodec.bin.canonical.written c.args.message.now);
      written = WritesUpTo-nothing (g.W.Write.contents c.args.output.now) frame;
      retried = first_of (search rules, cc, grind (arith, common_steps, p.2));
    })

pub returns-clause-ok : goal.returns-clause-ok
returns-clause-ok g c =
    writes_frame c.write_whole.result c.in_ok-code.code.items _ c.deref.result.now _ _ c.known.ensures c.in_ok-code.ensures
    (c.deref.ensures.value ∙ c.in_ok-frame.ensures) c.write_whole.ensures.ok
