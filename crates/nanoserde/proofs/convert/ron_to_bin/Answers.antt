use Rattle.nano_ron_tokens.specs.Breaks.{Breaks}
use Rattle.nano_ron_tokens.specs.Cut.{Cut}
use Rattle.nano_ron_tokens.specs.Outcomes.{report}
use Rattle.nanoserde.proofs.OutOfMemory.{no_text_of_memory, writer_rejects}
use Rattle.nanoserde.proofs.convert.ron_to_bin.Goals as goal

pub returns-clause-rejected : goal.returns-clause-rejected
returns-clause-rejected g c =
    writer_rejects c.serialize_bin.result c.ron_written.result (λ x. x) c.ron_written.ensures.ok c.ron_written.ensures.err
    (λ e m. no_text_of_memory Cut Breaks g.T.RonCodec.ron.encoding.encodes c.args.input.now (report e) m.memory m.words m.line m.col)
