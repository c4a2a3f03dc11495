use Rattle.std.proofs.Common.{sym}
use Rattle.std.proofs.lemmas.Result.{MatchResult-weaker}
use Rattle.nano_grammar.proofs.TokenCalls.{passed_on}
use Rattle.nano_ron_schema.proofs.FieldsCalls.{none_so_far, more_so_far, turn_shorter, fields_held}
use Rattle.nano_ron_schema.proofs.FieldsCalls.{opening_not, field_not, comma_not, closing_not}
use Rattle.nano_ron_schema.proofs.Calls.{name_pending}
use Rattle.nano_ron_schema.specs.FieldCodecs.{nothing_after}
use Rattle.nano_ron_nested.proofs.read.read_list.Goals as goal

pub fields-init : goal.fields-init
fields-init g c = none_so_far nothing_after (g.F.RonFieldsWithin.codec c.args.left).struct c.requires c.in_ok-paren_open.ensures

pub fields-smaller : goal.fields-smaller
fields-smaller g c = turn_shorter nothing_after (g.F.RonFieldsWithin.codec c.args.left).struct c.in_ok-read_any.ensures c.in_ok-eat_comma_paren.ensures

pub fields-preserved : goal.fields-preserved
fields-preserved g c =
    more_so_far nothing_after (g.F.RonFieldsWithin.codec c.args.left).struct c.in_ok-read_any.ensures c.fields.invariant (sym c.fields-test.ensures) c.in_ok-eat_comma_paren.ensures

pub returns : goal.returns
returns g c =
    MatchResult-weaker c.paren_close.result c.paren_close.ensures
    (λ _ close. fields_held nothing_after (g.F.RonFieldsWithin.codec c.args.left).struct c.fields.invariant close)
    (λ e bad. closing_not nothing_after (g.F.RonFieldsWithin.codec c.args.left).struct c.fields.invariant (sym c.fields-test.ensures) bad.fails)

pub returns-in_err-paren_open : goal.returns-in_err-paren_open
returns-in_err-paren_open g c =
    passed_on _ _ c.from_residual.result c.from_residual.ensures.1
    (opening_not nothing_after (g.F.RonFieldsWithin.codec c.args.left).struct c.in_err-paren_open.ensures.fails)

pub returns-in_err-read_any : goal.returns-in_err-read_any
returns-in_err-read_any g c =
    let named = sym c.fields-test.ensures in
    passed_on _ _ c.from_residual-in_err-read_any.result c.from_residual-in_err-read_any.ensures.1
    (field_not nothing_after (g.F.RonFieldsWithin.codec c.args.left).struct c.fields.invariant (name_pending c.fields.state named) named c.in_err-read_any.ensures)

pub returns-in_err-eat_comma_paren : goal.returns-in_err-eat_comma_paren
returns-in_err-eat_comma_paren g c =
    passed_on _ _ c.from_residual-in_err-eat_comma_paren.result c.from_residual-in_err-eat_comma_paren.ensures.1
    (comma_not nothing_after (g.F.RonFieldsWithin.codec c.args.left).struct c.in_ok-read_any.ensures c.fields.invariant (sym c.fields-test.ensures) c.in_err-eat_comma_paren.ensures.1.fails)
