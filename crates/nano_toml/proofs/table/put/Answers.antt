use Rattle.std.proofs.Common.{string_bytes}
use Rattle.nano_toml.proofs.OneTable.{Puts-from_updates}
use Rattle.nano_toml.proofs.table.put.Goals as goal

pub returns : goal.returns
returns c = let h = c.in_ok-insert.ensures.updates in Puts-from_updates (string_bytes c.args.key) c.args.table.now c.insert.new.self c.args.value h
