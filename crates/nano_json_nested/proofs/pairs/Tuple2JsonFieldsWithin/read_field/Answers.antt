use Rattle.std.proofs.Common.{[], ◌∷◌, ◌++◌, sym, ◌∙◌, subst}
use Rattle.std.proofs.lemmas.Result.{MatchResult-weaker}
use Rattle.nano_grammar.proofs.TokenCalls.{passed_on}
use Rattle.nano_grammar.proofs.FieldCalls.{first_found, first_not, second_found, second_not}
use Rattle.nano_json_tokens.specs.Cut.{Cut}
use Rattle.nano_json_schema.proofs.Calls.{still_there}
use Rattle.nano_json_nested.proofs.pairs.Tuple2JsonFieldsWithin.read_field.Goals as goal

pub returns-then-branch : goal.returns-then-branch
returns-then-branch g c =
    first_found Cut [] c.args.name.now (g.A.JsonFieldsWithin.codec c.args.left).struct.shape (g.B.JsonFieldsWithin.codec c.args.left).struct.shape (g.B.JsonFieldsWithin.holds c.args.left c.args.slots.now.1) c.if-branch.true c.in_ok-read_field.ensures

pub returns : goal.returns
returns g c =
    let a = (g.A.JsonFieldsWithin.codec c.args.left).struct.shape in
    let b = (g.B.JsonFieldsWithin.codec c.args.left).struct.shape in
    let h = c.in_ok-read_field.ensures in
    let unknown = sym h.known_is ∙ c.if-branch.false in
    let same = h.unknown c.if-branch.false in
    let still = still_there same.1 in
    MatchResult-weaker c.read_field-2.result c.read_field-2.ensures
    (λ _ k. second_found Cut [] c.args.name.now a b unknown still (λ fs f e x.
    subst (λ s. g.A.JsonFieldsWithin.holds c.args.left s (fs ++ f ∷ [])) (sym same.0) (g.met.A.JsonFieldsWithin.skips c.args.left c.args.slots.now.0 fs f e x))
    (λ k. ((λ i. (same.0 i, k.0 i)), (k.1.0 ∙ same.1.0, k.1.1 ∙ same.1.1))) k)
    (λ e k. second_not Cut [] c.args.name.now a b unknown still k)

pub returns-in_err-read_field : goal.returns-in_err-read_field
returns-in_err-read_field g c =
    passed_on _ _ c.from_residual.result c.from_residual.ensures.1
    (first_not Cut [] c.args.name.now (g.A.JsonFieldsWithin.codec c.args.left).struct.shape (g.B.JsonFieldsWithin.codec c.args.left).struct.shape c.in_err-read_field.ensures)
