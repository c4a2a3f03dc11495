use Rattle.std.proofs.lemmas.Result.{MatchResult-weaker}
use Rattle.nano_grammar.proofs.TokenCalls.{passed_on}
use Rattle.nano_json_schema.proofs.FieldsCalls.{none_so_far, more_so_far, turn_shorter, fields_held}
use Rattle.nano_json_schema.proofs.FieldsCalls.{opening_not, field_not, comma_not, closing_not}
use Rattle.nano_json_schema.proofs.read.read_list.Goals as goal

pub fields-init : goal.fields-init
fields-init g c = none_so_far g.U.Unknown.after g.F.JsonFields.codec.struct c.requires c.in_ok-name.ensures

pub fields-smaller : goal.fields-smaller
fields-smaller g c = turn_shorter c.in_ok-read_any.ensures c.in_ok-name-2.ensures

pub fields-preserved : goal.fields-preserved
fields-preserved g c =
    more_so_far g.U.Unknown.after g.F.JsonFields.codec.struct c.fields.invariant (c.is_at_field.ensures.yes c.fields-test.true) c.in_ok-read_any.ensures c.in_ok-name-2.ensures

pub returns : goal.returns
returns g c =
    let none = c.is_at_field.ensures.no c.fields-test.false in
    MatchResult-weaker c.curly_close.result c.curly_close.ensures
    (λ _ close. fields_held g.U.Unknown.after g.F.JsonFields.codec.struct c.fields.invariant none close)
    (λ e bad. closing_not g.U.Unknown.after g.F.JsonFields.codec.struct c.fields.invariant none bad.fails)

pub returns-in_err-name : goal.returns-in_err-name
returns-in_err-name g c =
    passed_on _ _ c.from_residual.result c.from_residual.ensures.1
    (opening_not g.U.Unknown.after g.F.JsonFields.codec.struct c.in_err-name.ensures)

pub returns-in_err-read_any : goal.returns-in_err-read_any
returns-in_err-read_any g c =
    passed_on _ _ c.from_residual-in_err-read_any.result c.from_residual-in_err-read_any.ensures.1
    (field_not g.U.Unknown.after g.F.JsonFields.codec.struct c.fields.invariant (c.is_at_field.ensures.yes c.fields-test.true) c.in_err-read_any.ensures)

pub returns-in_err-name-2 : goal.returns-in_err-name-2
returns-in_err-name-2 g c =
    passed_on _ _ c.from_residual-in_err-name-2.result c.from_residual-in_err-name-2.ensures.1
    (comma_not g.U.Unknown.after g.F.JsonFields.codec.struct c.fields.invariant (c.is_at_field.ensures.yes c.fields-test.true) c.in_ok-read_any.ensures c.in_err-name-2.ensures)
