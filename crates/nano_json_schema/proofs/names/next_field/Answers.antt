use Rattle.std.proofs.Common.{inl, sym, ◌∙◌}
use Rattle.nano_grammar.proofs.TokenCalls.{passed_on}
use Rattle.nano_json_tokens.specs.Token.{comma}
use Rattle.nano_json_schema.proofs.Calls.{still_there}
use Rattle.nano_json_schema.proofs.FieldNames.{name_reached, none_reached, went_on, not_on}
use Rattle.nano_json_schema.proofs.names.next_field.Goals as goal

pub returns-then-is_some : goal.returns-then-is_some
returns-then-is_some c =
    name_reached c.args.state.now c.name_after-name.new.state c.args.input.now c.name_after-name.new.input comma c.name_after-name.result (sym c.is_some.ensures ∙ c.if-is_some.true) c.is_comma.ensures (λ end l. inl l) c.name_after-name.ensures

pub returns : goal.returns
returns c =
    let none = none_reached c.args.state.now c.name_after-name.new.state c.args.input.now c.name_after-name.new.input c.name_after-name.result (sym c.is_some.ensures ∙ c.if-is_some.false) c.name_after-name.ensures in
    went_on none (λ e. still_there (none.unchanged e)) c.is_comma.ensures c.in_ok-eat_comma_curly.ensures

pub returns-in_err-eat_comma_curly : goal.returns-in_err-eat_comma_curly
returns-in_err-eat_comma_curly c =
    passed_on _ _ c.from_residual.result c.from_residual.ensures.1
    (not_on (none_reached c.args.state.now c.name_after-name.new.state c.args.input.now c.name_after-name.new.input c.name_after-name.result (sym c.is_some.ensures ∙ c.if-is_some.false) c.name_after-name.ensures) c.is_comma.ensures c.in_err-eat_comma_curly.ensures.1.fails)
