use Rattle.std.proofs.Common.{[], sym, ◌∙◌, subst}
use Rattle.std.proofs.lemmas.Result.{MatchResult-weaker}
use Rattle.nano_grammar.proofs.TokenCalls.{passed_on}
use Rattle.nano_grammar.proofs.FieldCalls.{known_read, known_not, skipped_read, skipped_not}
use Rattle.nano_json_schema.specs.FieldCodecs.{json_fields}
use Rattle.nano_json_schema.proofs.Calls.{still_there, field_passed}
use Rattle.nano_json_nested.proofs.read.read_named.Goals as goal

pub returns-then-branch : goal.returns-then-branch
returns-then-branch g c =
    known_read json_fields c.args.name.now (g.F.JsonFieldsWithin.codec c.args.left).struct.shape [] (rw c.if-branch.true at c.in_ok-read_field.ensures)

pub returns : goal.returns
returns g c =
    let shape = (g.F.JsonFieldsWithin.codec c.args.left).struct.shape in
    let h = c.in_ok-read_field.ensures in
    let unknown = sym h.known_is ∙ c.if-branch.false in
    let same = h.unknown c.if-branch.false in
    MatchResult-weaker c.whole_field.result c.whole_field.ensures
    (λ _ k. let p = field_passed k in skipped_read json_fields c.args.name.now shape unknown (still_there same.1) p.0 p.1 p.2 (λ fs f e x.
    g.met.F.JsonFieldsWithin.skips c.args.left c.read_field.new.slots fs f e (subst (λ s. g.F.JsonFieldsWithin.holds c.args.left s fs) (sym same.0) x)))
    (λ e k. skipped_not json_fields c.args.name.now shape unknown (still_there same.1) k.fails)

pub returns-in_err-read_field : goal.returns-in_err-read_field
returns-in_err-read_field g c =
    passed_on _ _ c.from_residual.result c.from_residual.ensures.1
    (known_not json_fields c.args.name.now (g.F.JsonFieldsWithin.codec c.args.left).struct.shape [] c.in_err-read_field.ensures)
