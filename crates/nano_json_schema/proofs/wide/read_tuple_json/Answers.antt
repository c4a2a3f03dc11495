use Rattle.std.proofs.Common.{subst}
use Rattle.nano_json_tokens.specs.Outcomes.{position, ReadsOrEnds}
use Rattle.nano_json_tokens.proofs.Calling.{ended_read}
use Rattle.nano_json_schema.specs.FieldCodecs.{row_codec}
use Rattle.nano_json_schema.proofs.wide.read_tuple_json.Goals as goal

pub returns-in-Ok : goal.returns-in-Ok
returns-in-Ok g c =
    let parts = g.P.JsonPartsRead.codec in
    rw c.make.ensures (subst (ReadsOrEnds (row_codec parts).encoding.encodes parts.canonical.means (position c.args.state.now c.args.input.now) (position c.end_on_error.new.state c.read_row-read.new.input)) c.in-Ok.is
    (ended_read _ _ _ c.read_row-read.new.input c.end_on_error.ensures c.read_row-read.ensures))

pub returns-in-Err : goal.returns-in-Err
returns-in-Err g c =
    let parts = g.P.JsonPartsRead.codec in
    subst (ReadsOrEnds (row_codec parts).encoding.encodes parts.canonical.means (position c.args.state.now c.args.input.now) (position c.end_on_error.new.state c.read_row-read.new.input)) c.in-Err.is
    (ended_read _ _ _ c.read_row-read.new.input c.end_on_error.ensures c.read_row-read.ensures)
