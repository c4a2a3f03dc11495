use Rattle.std.proofs.Common.{sym}
use Rattle.nano_json_schema.proofs.wide.NewtypeJsonPartsRead.read.Goals as goal

pub returns : goal.returns
returns g c = rw (sym g.met.T.JsonCodec.agrees.means_is) at c.read_last.ensures
