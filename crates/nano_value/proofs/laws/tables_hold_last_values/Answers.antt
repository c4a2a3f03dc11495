use Rattle.std.proofs.Common.{map}
use Rattle.nano_value.specs.Meaning.{pair_map}
use Rattle.nano_meaning.proofs.LastValuesLaws.{holds_last_values}
use Rattle.nano_value.proofs.laws.tables_hold_last_values.Goals as goal

pub returns : goal.returns
returns g c entries t = holds_last_values (map (pair_map g.K.Value.means g.V.Value.means) entries) t
