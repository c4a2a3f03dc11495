use Rattle.std.proofs.Common.{sym, ◌∙◌}
use Rattle.nano_grammar.proofs.TokenCalls.{passed_on}
use Rattle.nano_json_tokens.specs.Token.{curly_open}
use Rattle.nano_json_schema.proofs.FieldNames.{name_reached, none_reached, opened, not_opened}
use Rattle.nano_json_schema.proofs.names.open_fields.Goals as goal

pub returns-then-is_some : goal.returns-then-is_some
returns-then-is_some c =
    name_reached c.args.state.now c.name_after-name.new.state c.args.input.now c.name_after-name.new.input curly_open c.name_after-name.result (sym c.is_some.ensures ∙ c.if-is_some.true) c.is_opening.ensures (λ end l. l) c.name_after-name.ensures

pub returns : goal.returns
returns c =
    opened (none_reached c.args.state.now c.name_after-name.new.state c.args.input.now c.name_after-name.new.input c.name_after-name.result (sym c.is_some.ensures ∙ c.if-is_some.false) c.name_after-name.ensures) c.in_ok-curly_open.ensures

pub returns-in_err-curly_open : goal.returns-in_err-curly_open
returns-in_err-curly_open c =
    passed_on _ _ c.from_residual.result c.from_residual.ensures.1
    (not_opened (none_reached c.args.state.now c.name_after-name.new.state c.args.input.now c.name_after-name.new.input c.name_after-name.result (sym c.is_some.ensures ∙ c.if-is_some.false) c.name_after-name.ensures) c.is_opening.ensures c.in_err-curly_open.ensures.fails)
