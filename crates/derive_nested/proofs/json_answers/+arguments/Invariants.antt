use Rattle.std.proofs.Common.{◌-◌}
use Rattle.derive_nested.proofs.json_answers.+arguments.Given as goal

abbrev pub decreases-arguments : goal.decreases-arguments
decreases-arguments l = l.end - l.from
