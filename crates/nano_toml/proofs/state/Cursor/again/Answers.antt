use Rattle.std.proofs.Common.{◌∙◌}
use Rattle.nano_toml.proofs.Places.{remaining_same}
use Rattle.nano_toml.proofs.state.Cursor.again.Goals as goal

pub returns : goal.returns
returns c = remaining_same c.chars.result c.args.self.now.rest (c.chars.ensures.rest ∙ c.as_str.ensures)
