use Rattle.std.proofs.Common.{refl, sym, ◌∙◌}
use Rattle.std.proofs.lemmas.Result.{MatchResult-weaker}
use Rattle.nano_grammar.proofs.TokenCalls.{passed_on}
use Rattle.nano_json_schema.proofs.FieldsCalls.{none_so_far, more_so_far, turn_shorter, fields_held}
use Rattle.nano_json_schema.proofs.FieldsCalls.{opening_not, field_not, comma_not, closing_not}
use Rattle.nano_json_schema.specs.FieldCodecs.{passed_over}
use Rattle.nano_json_nested.proofs.FieldReaders.{opened, went_on}
use Rattle.nano_json_nested.proofs.read.read_list.Goals as goal

pub fields-init : goal.fields-init
fields-init g c = none_so_far passed_over (g.F.JsonFieldsWithin.codec c.args.left).struct c.requires (opened c.in_ok-curly_open.ensures)

pub fields-smaller : goal.fields-smaller
fields-smaller g c = turn_shorter c.in_ok-read_any.ensures (went_on c.in_ok-eat_comma_curly.ensures)

pub fields-preserved : goal.fields-preserved
fields-preserved g c =
    more_so_far passed_over (g.F.JsonFieldsWithin.codec c.args.left).struct c.fields.invariant (λ _. sym c.is_name.ensures ∙ c.fields-test.true) c.in_ok-read_any.ensures (went_on c.in_ok-eat_comma_curly.ensures)

pub returns : goal.returns
returns g c =
    MatchResult-weaker c.curly_close.result c.curly_close.ensures
    (λ _ close. fields_held passed_over (g.F.JsonFieldsWithin.codec c.args.left).struct c.fields.invariant (refl, sym c.is_name.ensures ∙ c.fields-test.false) close)
    (λ e bad. closing_not passed_over (g.F.JsonFieldsWithin.codec c.args.left).struct c.fields.invariant (refl, sym c.is_name.ensures ∙ c.fields-test.false) bad.fails)

pub returns-in_err-curly_open : goal.returns-in_err-curly_open
returns-in_err-curly_open g c =
    passed_on _ _ c.from_residual.result c.from_residual.ensures.1
    (opening_not passed_over (g.F.JsonFieldsWithin.codec c.args.left).struct c.in_err-curly_open.ensures.fails)

pub returns-in_err-read_any : goal.returns-in_err-read_any
returns-in_err-read_any g c =
    passed_on _ _ c.from_residual-in_err-read_any.result c.from_residual-in_err-read_any.ensures.1
    (field_not passed_over (g.F.JsonFieldsWithin.codec c.args.left).struct c.fields.invariant (λ _. sym c.is_name.ensures ∙ c.fields-test.true) c.in_err-read_any.ensures)

pub returns-in_err-eat_comma_curly : goal.returns-in_err-eat_comma_curly
returns-in_err-eat_comma_curly g c =
    passed_on _ _ c.from_residual-in_err-eat_comma_curly.result c.from_residual-in_err-eat_comma_curly.ensures.1
    (comma_not passed_over (g.F.JsonFieldsWithin.codec c.args.left).struct c.fields.invariant (λ _. sym c.is_name.ensures ∙ c.fields-test.true) c.in_ok-read_any.ensures c.in_err-eat_comma_curly.ensures.1.fails)
