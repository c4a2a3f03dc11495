use Rattle.std.proofs.Common.{ap, sym, ◌∙◌}
use Rattle.std.specs.Option.{option_copied}
use Rattle.nano_toml.proofs.RunPrefixes.{first_byte, no_byte}
use Rattle.nano_toml.proofs.state.Cursor.first.Goals as goal

pub returns-in-Some-clause-end : goal.returns-in-Some-clause-end
returns-in-Some-clause-end c = (first_byte c.args.self.now.rest c.as_str.result.now c.as_bytes.result.now c.in-Some.byte.now c.as_str.utf8 c.as_str.ensures c.as_bytes.ensures.value (sym (ap option_copied c.in-Some.is) ∙ c.first.ensures.value)).end

pub returns-in-Some-clause-test : goal.returns-in-Some-clause-test
returns-in-Some-clause-test c = (first_byte c.args.self.now.rest c.as_str.result.now c.as_bytes.result.now c.in-Some.byte.now c.as_str.utf8 c.as_str.ensures c.as_bytes.ensures.value (sym (ap option_copied c.in-Some.is) ∙ c.first.ensures.value)).test

pub returns-in-None-clause-end : goal.returns-in-None-clause-end
returns-in-None-clause-end c = (no_byte c.args.self.now.rest c.as_str.result.now c.as_bytes.result.now c.as_str.ensures c.as_bytes.ensures.value (sym (ap option_copied c.in-None.is) ∙ c.first.ensures.value)).end

pub returns-in-None-clause-test : goal.returns-in-None-clause-test
returns-in-None-clause-test c = (no_byte c.args.self.now.rest c.as_str.result.now c.as_bytes.result.now c.as_str.ensures c.as_bytes.ensures.value (sym (ap option_copied c.in-None.is) ∙ c.first.ensures.value)).test
