use Rattle.std.proofs.Common.{string_bytes, sym, ◌∙◌, refl}
use Rattle.nano_grammar.proofs.TokenCalls.{passed_on}
use Rattle.nano_grammar.proofs.FieldCalls.{known_not}
use Rattle.nano_grammar.specs.UserOutcomes.{FieldTokens}
use Rattle.nano_ron_schema.specs.Outcomes.{OtherField}
use Rattle.nano_ron_schema.specs.Reading.{Allowed, head}
use Rattle.nano_ron_schema.specs.FieldCodecs.{nothing_after, ron_fields}
use Rattle.nano_ron_schema.proofs.Calls.{still_there}
use Rattle.nano_ron_schema.proofs.FieldCalls.{divided_not, known_field, no_other, rejected_not}
use Rattle.nano_ron_nested.proofs.read.read_any.Goals as goal

pub returns-then-branch : goal.returns-then-branch
returns-then-branch g c =
    let name = string_bytes c.args.state.now.identbuf in
    known_field nothing_after name (g.F.RonFieldsWithin.codec c.args.left).struct (rw c.if-branch.true at c.in_ok-read_field.ensures)

pub returns : goal.returns
returns g c =
    let h = c.in_ok-read_field.ensures in
    let name = string_bytes c.args.state.now.identbuf in
    let none = sym h.known_is ∙ c.if-branch.false in
    no_other nothing_after name (g.F.RonFieldsWithin.codec c.args.left).struct none refl
    (divided_not (OtherField name nothing_after)
    (rejected_not name refl (still_there (h.unknown c.if-branch.false).1) c.err_exp.ensures.1))

pub returns-in_err-read_field : goal.returns-in_err-read_field
returns-in_err-read_field g c =
    let name = string_bytes c.args.state.now.identbuf in
    passed_on _ _ c.from_residual.result c.from_residual.ensures.1
    (divided_not (FieldTokens (head name) name (Allowed nothing_after (g.F.RonFieldsWithin.codec c.args.left).struct.shape))
    (known_not ron_fields name (g.F.RonFieldsWithin.codec c.args.left).struct.shape (head name) c.in_err-read_field.ensures))
