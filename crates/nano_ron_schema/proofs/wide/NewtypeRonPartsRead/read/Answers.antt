use Rattle.std.proofs.Common.{sym}
use Rattle.nano_ron_schema.proofs.wide.NewtypeRonPartsRead.read.Goals as goal

pub returns : goal.returns
returns g c = rw (sym g.met.T.RonCodec.agrees.means_is) at c.read_last.ensures
