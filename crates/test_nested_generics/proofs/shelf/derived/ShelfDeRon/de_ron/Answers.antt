-- Written by derive_files.
use Rattle.std.proofs.Common.{subst}
use Rattle.nano_ron.specs.Outcomes.{position, ReadsOrEnds}
use Rattle.nano_schema_levels.proofs.LegalLevelsLaws.{between}
use Rattle.test_nested_generics.specs.ShelfCodecs.{shelf_means}
use Rattle.test_nested_generics.specs.ShelfRonCodecs.{shelf_ron}
use Rattle.test_nested_generics.proofs.shelf.derived.ShelfDeRon.de_ron.Goals as goal

pub returns : goal.returns
returns g c =
    subst (λ m. ReadsOrEnds (shelf_ron g.K.RonCodec.ron g.V.RonCodec.ron).encoding.encodes m
    (position c.args.state.now c.args.input.now)
    (position c.read_ron.new.state c.read_ron.new.input) c.read_ron.result)
    (λ i. shelf_means ((between g.met.K.BinCodec.agrees g.met.K.RonCodec.agrees).means_is i) ((between g.met.V.BinCodec.agrees g.met.V.RonCodec.agrees).means_is i)) c.read_ron.ensures
