use Rattle.std.proofs.Common.{ap}
use Rattle.nano_value.specs.Sets.{item_set}
use Rattle.nano_value.proofs.collect.HashSetCollect.empty.Goals as goal

pub returns : goal.returns
returns g c = record { distinct = c.new.ensures.unique; same = ap (item_set g.T.Value.means) c.new.ensures.empty }
