-- Written by derive_files.
use Rattle.std.proofs.Common.{subst}
use Rattle.nano_ron.specs.Outcomes.{position, ReadsOrEnds}
use Rattle.nano_schema_levels.proofs.LegalLevelsLaws.{between}
use Rattle.test_nested_generics.specs.PlanCodecs.{plan_means}
use Rattle.test_nested_generics.specs.PlanRonCodecs.{plan_ron}
use Rattle.test_nested_generics.proofs.plan.derived.PlanDeRon.de_ron.Goals as goal

pub returns : goal.returns
returns g c =
    subst (λ m. ReadsOrEnds (plan_ron g.T.RonCodec.ron).encoding.encodes m
    (position c.args.state.now c.args.input.now)
    (position c.read_ron.new.state c.read_ron.new.input) c.read_ron.result)
    (λ i. plan_means ((between g.met.T.BinCodec.agrees g.met.T.RonCodec.agrees).means_is i)) c.read_ron.ensures
