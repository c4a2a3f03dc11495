use Rattle.std.proofs.Common.{refl}
use Rattle.nano_grammar.specs.Fields.{others}
use Rattle.nano_grammar.proofs.UserCalls.{first_missing, later_missing}
use Rattle.nano_ron_schema.proofs.pairs.Tuple2RonFields.values.Goals as goal

pub returns-in-Ok-values : goal.returns-in-Ok-values
returns-in-Ok-values g c fs h = record {
  part = (g.A.RonFields.codec.canonical.means c.in-Ok.values, g.B.RonFields.codec.canonical.means c.in-Ok-values.more);
  has = (c.in-Ok.ensures fs h.0, c.in-Ok-values.ensures (others (g.A.RonFields.codec.struct).shape.knows fs) h.1);
  is = refl;
}

pub returns-in-Err-values : goal.returns-in-Err-values
returns-in-Err-values g c =
    let none = c.in-Err-values.ensures in
    record {
      rejected = λ known. later_missing g.A.RonFields.codec.struct.shape g.B.RonFields.codec.struct.shape
          (g.A.RonFields.codec.canonical.means c.in-Ok.values) c.in-Ok.ensures (none.rejected known);
      made = none.made;
    }

pub returns-in-Err : goal.returns-in-Err
returns-in-Err g c =
    let none = c.in-Err.ensures in
    record {
      rejected = λ known. first_missing g.A.RonFields.codec.struct.shape g.B.RonFields.codec.struct.shape
          (g.B.RonFields.holds c.args.slots.1) (none.rejected known);
      made = none.made;
    }
