use Rattle.std.proofs.Common.{refl}
use Rattle.nano_grammar.specs.Fields.{others}
use Rattle.nano_grammar.proofs.UserCalls.{first_missing, later_missing}
use Rattle.nano_json_nested.proofs.pairs.Tuple2JsonFieldsWithin.values.Goals as goal

pub returns-in-Ok-values : goal.returns-in-Ok-values
returns-in-Ok-values g c levels fs h = record {
  part = (g.A.JsonFieldsWithin.means c.in-Ok.values, g.B.JsonFieldsWithin.means c.in-Ok-values.more);
  has = (c.in-Ok.ensures levels fs h.0, c.in-Ok-values.ensures levels (others (g.A.JsonFieldsWithin.codec levels).struct.shape.knows fs) h.1);
  is = refl;
}

pub returns-in-Err-values : goal.returns-in-Err-values
returns-in-Err-values g c levels =
    let none = c.in-Err-values.ensures levels in
    record {
      rejected = λ known. later_missing (g.A.JsonFieldsWithin.codec levels).struct.shape (g.B.JsonFieldsWithin.codec levels).struct.shape
          (g.A.JsonFieldsWithin.means c.in-Ok.values) (c.in-Ok.ensures levels) (none.rejected known);
      made = none.made;
    }

pub returns-in-Err : goal.returns-in-Err
returns-in-Err g c levels =
    let none = c.in-Err.ensures levels in
    record {
      rejected = λ known. first_missing (g.A.JsonFieldsWithin.codec levels).struct.shape (g.B.JsonFieldsWithin.codec levels).struct.shape
          (g.B.JsonFieldsWithin.holds levels c.args.slots.1) (none.rejected known);
      made = none.made;
    }
