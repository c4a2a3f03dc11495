use Rattle.std.specs.Prelude.{length}
use Rattle.nano_text.specs.Place.{text_at, Moves}
use Rattle.nano_grammar.proofs.Plain.{TookFields}
use Rattle.nano_json_schema.specs.FieldCodecs.{fields_with}
use Rattle.nano_json_schema.proofs.plain.take_list.Given as goal

abbrev pub invariant-fields : goal.invariant-fields
invariant-fields g l =
    TookFields (fields_with g.U.Unknown.after) g.F.JsonFields.codec.struct.shape (g.F.JsonFields.holds l.slots) (text_at l.fn.place l.fn.input) (text_at l.place l.input)
    × Moves l.fn.place l.fn.input l.place l.input

abbrev pub decreases-fields : goal.decreases-fields
decreases-fields g l = length (text_at l.place l.input)
