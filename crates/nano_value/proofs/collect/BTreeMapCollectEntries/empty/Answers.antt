use Rattle.std.proofs.Common.{ap}
use Rattle.nano_value.specs.Tables.{table_of}
use Rattle.nano_value.proofs.collect.BTreeMapCollectEntries.empty.Goals as goal

pub returns : goal.returns
returns g c = record { ordered = c.new.ensures.ordered; same = ap (table_of g.K.Value.means g.V.Value.means) c.new.ensures.empty }
