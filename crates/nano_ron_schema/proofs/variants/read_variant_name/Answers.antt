use Rattle.nano_ron_schema.proofs.Calls.{ended_take}
use Rattle.nano_ron_schema.proofs.variants.read_variant_name.Goals as goal

pub returns : goal.returns
returns c = ended_take _ _ _ c.read_name-read.new.input c.end_on_error.ensures c.read_name-read.ensures
