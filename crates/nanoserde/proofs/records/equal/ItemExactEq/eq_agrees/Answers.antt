use Rattle.std.proofs.Common.{refl}
use Rattle.nanoserde.proofs.records.equal.ItemExactEq.eq_agrees.Goals as goal

pub returns : goal.returns
returns c = c.equal_records_mean_the_same.ensures refl
