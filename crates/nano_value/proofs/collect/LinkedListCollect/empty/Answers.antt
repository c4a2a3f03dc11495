use Rattle.std.proofs.Common.{map, ap}
use Rattle.nano_value.proofs.collect.LinkedListCollect.empty.Goals as goal

pub returns : goal.returns
returns g c = ap (map g.T.Value.means) c.new.ensures
