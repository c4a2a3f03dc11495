use Rattle.std.proofs.Common.{string_bytes, refl, sym, ◌∙◌}
use Rattle.std.proofs.lemmas.Result.{MatchResult-weaker}
use Rattle.nano_grammar.proofs.TokenCalls.{passed_on}
use Rattle.nano_grammar.proofs.FieldCalls.{first_found, first_not, second_found, second_not}
use Rattle.nano_ron_tokens.specs.Cut.{Cut}
use Rattle.nano_ron_schema.specs.Reading.{head}
use Rattle.nano_ron_nested.proofs.pairs.Tuple2RonFieldsWithin.read_field.Goals as goal

pub returns-in_err-read_field : goal.returns-in_err-read_field
returns-in_err-read_field g c =
    let name = string_bytes c.args.state.now.identbuf in
    passed_on _ _ c.from_residual.result c.from_residual.ensures.1
    (first_not Cut (head name) name (g.A.RonFieldsWithin.codec c.args.left).struct.shape (g.B.RonFieldsWithin.codec c.args.left).struct.shape c.in_err-read_field.ensures)

pub returns-then-branch : goal.returns-then-branch
returns-then-branch g c =
    let name = string_bytes c.args.state.now.identbuf in
    first_found Cut (head name) name (g.A.RonFieldsWithin.codec c.args.left).struct.shape (g.B.RonFieldsWithin.codec c.args.left).struct.shape (g.B.RonFieldsWithin.holds c.args.left c.args.slots.now.1) c.if-branch.true
    c.in_ok-read_field.ensures

pub returns : goal.returns
returns g c =
    let a = (g.A.RonFieldsWithin.codec c.args.left).struct.shape in
    let b = (g.B.RonFieldsWithin.codec c.args.left).struct.shape in
    let name = string_bytes c.args.state.now.identbuf in
    let found = c.in_ok-read_field.ensures in
    let unknown = sym found.known_is ∙ c.if-branch.false in
    let still = found.unknown c.if-branch.false in
    rw (still.0) (MatchResult-weaker c.read_field-2.result (rw (still.1.0, still.1.1) at c.read_field-2.ensures)
    (λ _ x. second_found Cut (head name) name a b unknown refl (g.met.A.RonFieldsWithin.skips c.args.left c.args.slots.now.0)
    (λ same. ((λ i. (c.args.slots.now.0, same.0 i)), same.1)) x)
    (λ _ x. second_not Cut (head name) name a b unknown refl x))
