use Rattle.nano_json_tokens.specs.Breaks.{Breaks}
use Rattle.nano_json_tokens.specs.Cut.{Cut}
use Rattle.nano_json_tokens.specs.Outcomes.{report}
use Rattle.nanoserde.proofs.OutOfMemory.{no_text_of_memory, writer_rejects}
use Rattle.nanoserde.proofs.normal.normal_json.Goals as goal

pub returns-clause-rejected : goal.returns-clause-rejected
returns-clause-rejected g c =
    writer_rejects c.serialize_json.result c.json_written.result (λ x. x) c.json_written.ensures.ok c.json_written.ensures.err
    (λ e m. no_text_of_memory Cut Breaks g.T.JsonCodec.json.encoding.encodes c.args.input.now (report e) m.memory m.words m.line m.col)
