-- Written by derive_files.
use Rattle.std.proofs.Common.{subst}
use Rattle.nano_json.specs.Outcomes.{position, ReadsOrEnds}
use Rattle.nano_schema_levels.proofs.LegalLevelsLaws.{between}
use Rattle.test_nested_generics.specs.PlanCodecs.{plan_means}
use Rattle.test_nested_generics.specs.PlanJsonCodecs.{plan_json}
use Rattle.test_nested_generics.proofs.plan.derived.PlanDeJson.de_json.Goals as goal

pub returns : goal.returns
returns g c =
    subst (λ m. ReadsOrEnds (plan_json g.T.JsonCodec.json).encoding.encodes m
    (position c.args.state.now c.args.input.now)
    (position c.read_json.new.state c.read_json.new.input) c.read_json.result)
    (λ i. plan_means ((between g.met.T.BinCodec.agrees g.met.T.JsonCodec.agrees).means_is i)) c.read_json.ensures
