use Rattle.std.proofs.Common.{subst}
use Rattle.nano_json_tokens.specs.Outcomes.{position, ReadsOrEnds}
use Rattle.nano_json_tokens.proofs.Calling.{ended_read}
use Rattle.nano_json_schema.specs.FieldCodecs.{single_codec}
use Rattle.nano_json_schema.proofs.brackets.InBracketsDeJson.de_json.Goals as goal

pub returns-in-Ok : goal.returns-in-Ok
returns-in-Ok g c =
    subst (ReadsOrEnds (single_codec g.T.JsonCodec.json).encoding.encodes g.T.Value.means (position c.args.state.now c.args.input.now) (position c.end_on_error.new.state c.read_brackets-read.new.input)) c.in-Ok.is
    (ended_read _ _ _ c.read_brackets-read.new.input c.end_on_error.ensures c.read_brackets-read.ensures)

pub returns-in-Err : goal.returns-in-Err
returns-in-Err g c =
    subst (ReadsOrEnds (single_codec g.T.JsonCodec.json).encoding.encodes g.T.Value.means (position c.args.state.now c.args.input.now) (position c.end_on_error.new.state c.read_brackets-read.new.input)) c.in-Err.is
    (ended_read _ _ _ c.read_brackets-read.new.input c.end_on_error.ensures c.read_brackets-read.ensures)
