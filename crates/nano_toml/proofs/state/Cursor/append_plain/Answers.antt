use Rattle.std.proofs.Common.{ap, refl, length, arith}
use Rattle.nano_toml.specs.Place.{remaining}
use Rattle.nano_toml.specs.Scan.{is_plain}
use Rattle.nano_toml.proofs.ByteTests.{plain_test}
use Rattle.nano_toml.proofs.Places.{after_shorter}
use Rattle.nano_toml.proofs.state.Cursor.append_plain.Goals as goal

pub take_while-plain-requires-clause-by_bytes : goal.take_while-plain-requires-clause-by_bytes
take_while-plain-requires-clause-by_bytes c = (is_plain, plain_test, λ b r says. says)

pub returns-clause-rest : goal.returns-clause-rest
returns-clause-rest c = c.take_while-plain.ensures.rest is_plain plain_test (λ b r says. says)

pub returns-clause-shorter : goal.returns-clause-shorter
returns-clause-shorter c =
    omega (arith, ap length (c.take_while-plain.ensures.rest is_plain plain_test (λ b r says. says)), after_shorter is_plain (remaining c.args.self.now) c.requires)

pub returns-clause-text : goal.returns-clause-text
returns-clause-text c = rw (c.in_ok-push_str.ensures.bytes, c.take_while-plain.ensures.text is_plain plain_test (λ b r says. says)) refl
