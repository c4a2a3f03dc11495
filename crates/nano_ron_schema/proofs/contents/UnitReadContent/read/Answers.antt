use Rattle.std.proofs.Common.{[], refl}
use Rattle.nano_text.proofs.PlaceLaws.{moves_none}
use Rattle.nano_ron_schema.proofs.contents.UnitReadContent.read.Goals as goal

pub returns : goal.returns
returns c = record { decodes = ([], (refl, refl), refl); place = moves_none _ _ }
