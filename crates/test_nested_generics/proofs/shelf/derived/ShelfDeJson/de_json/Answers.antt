-- Written by derive_files.
use Rattle.std.proofs.Common.{subst}
use Rattle.nano_json.specs.Outcomes.{position, ReadsOrEnds}
use Rattle.nano_schema_levels.proofs.LegalLevelsLaws.{between}
use Rattle.test_nested_generics.specs.ShelfCodecs.{shelf_means}
use Rattle.test_nested_generics.specs.ShelfJsonCodecs.{shelf_json}
use Rattle.test_nested_generics.proofs.shelf.derived.ShelfDeJson.de_json.Goals as goal

pub returns : goal.returns
returns g c =
    subst (λ m. ReadsOrEnds (shelf_json g.K.JsonCodec.json g.V.JsonCodec.json).encoding.encodes m
    (position c.args.state.now c.args.input.now)
    (position c.read_json.new.state c.read_json.new.input) c.read_json.result)
    (λ i. shelf_means ((between g.met.K.BinCodec.agrees g.met.K.JsonCodec.agrees).means_is i) ((between g.met.V.BinCodec.agrees g.met.V.JsonCodec.agrees).means_is i)) c.read_json.ensures
