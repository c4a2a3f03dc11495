use Rattle.std.proofs.Common.{refl}
use Rattle.nano_grammar.specs.Fields.{others}
use Rattle.nano_json_schema.proofs.pairs.Tuple2JsonFields.whole.Goals as goal

pub returns-in-Some-whole : goal.returns-in-Some-whole
returns-in-Some-whole g c fs h = record {
  part = (g.A.JsonFields.codec.canonical.means c.in-Some.values, g.B.JsonFields.codec.canonical.means c.in-Some-whole.more);
  has = (c.in-Some.ensures fs h.0, c.in-Some-whole.ensures (others g.A.JsonFields.codec.struct.shape.knows fs) h.1);
  is = refl;
}
