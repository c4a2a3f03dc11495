use Rattle.std.proofs.Common.{refl, ◌∙◌}
use Rattle.nano_toml.specs.Characters.{is_in_digits}
use Rattle.nano_toml.specs.Place.{remaining}
use Rattle.nano_toml.proofs.ByteTests.{digits_test}
use Rattle.nano_toml.proofs.Utf8Prefixes.{prefix_ascii}
use Rattle.nano_toml.proofs.state.Cursor.read_digits.Goals as goal

pub take_while-requires-clause-by_bytes : goal.take_while-requires-clause-by_bytes
take_while-requires-clause-by_bytes c = (is_in_digits, digits_test, λ b r says. says)

pub returns-clause-text : goal.returns-clause-text
returns-clause-text c = c.take_while.ensures.text is_in_digits digits_test (λ b r says. says) ∙ prefix_ascii is_in_digits digits_test refl (remaining c.args.self.now)

pub returns-clause-rest : goal.returns-clause-rest
returns-clause-rest c = c.take_while.ensures.rest is_in_digits digits_test (λ b r says. says)
