use Rattle.std.proofs.Common.{sum_by}
use Rattle.nano_toml.proofs.OneTable.{count}
use Rattle.nano_toml.proofs.value.Toml.+release.Given as goal

abbrev pub decreases-release-values : goal.decreases-release-values
decreases-release-values l = sum_by count l.left.items

abbrev pub invariant-release-values : goal.invariant-release-values
invariant-release-values l = goal.no_deeper-release-values l
