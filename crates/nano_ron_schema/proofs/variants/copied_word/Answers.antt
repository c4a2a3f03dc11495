use Rattle.std.proofs.Common.{sym, ◌∙◌, ap}
use Rattle.nano_ron_tokens.specs.Token.{ident}
use Rattle.nano_ron_schema.proofs.Calls.{pending_name}
use Rattle.nano_ron_schema.proofs.variants.copied_word.Goals as goal

pub returns-in-Ok : goal.returns-in-Ok
returns-in-Ok c = pending_name c.args.state.now c.requires ∙ ap ident (sym (c.in-Ok.ensures.ok ∙ c.as_str.ensures.value))
