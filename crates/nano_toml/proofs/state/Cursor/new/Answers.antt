use Rattle.nano_toml.proofs.Places.{remaining_whole}
use Rattle.nano_toml.proofs.state.Cursor.new.Goals as goal

pub returns : goal.returns
returns c = remaining_whole c.chars.result c.args.input.now c.chars.ensures.rest
