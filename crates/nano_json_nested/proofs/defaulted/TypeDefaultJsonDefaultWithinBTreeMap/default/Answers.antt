use Rattle.std.proofs.Common.{refl}
use Rattle.nano_value.specs.Order.{meaning_cmp}
use Rattle.nano_meaning.proofs.TablesLaws.{no_entries}
use Rattle.nano_json_nested.proofs.defaulted.TypeDefaultJsonDefaultWithinBTreeMap.default.Goals as goal

pub returns : goal.returns
returns g c = rw (c.new.ensures.empty, no_entries meaning_cmp) refl
