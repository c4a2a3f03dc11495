use Rattle.std.proofs.Common.{◌==◌, ℕ, sym, ◌∙◌, refl}
use Rattle.nano_toml.specs.Characters.{is_sign}
use Rattle.nano_toml.specs.Place.{remaining}
use Rattle.nano_toml.proofs.ByteTests.{minus_test, sign_test}
use Rattle.nano_toml.proofs.Places.{tail_past}
use Rattle.nano_toml.proofs.state.Cursor.read_sign.Goals as goal

pub returns-then-is_sign-clause-minus : goal.returns-then-is_sign-clause-minus
returns-then-is_sign-clause-minus c = sym (c.first-first.ensures.test (λ (d : ℕ). d == 45) minus_test)

pub returns-then-is_sign-clause-rest : goal.returns-then-is_sign-clause-rest
returns-then-is_sign-clause-rest c =
    let some = c.first-first.ensures.test is_sign sign_test ∙ sym c.if-is_sign.ensures in
    rw some (tail_past is_sign (remaining c.args.self.now) (remaining c.next.new.self) c.next.result c.next.ensures.taken c.next.ensures.end some)

pub returns-else-is_sign-clause-minus : goal.returns-else-is_sign-clause-minus
returns-else-is_sign-clause-minus c = sym (c.first-first.ensures.test (λ (d : ℕ). d == 45) minus_test)

pub returns-else-is_sign-clause-rest : goal.returns-else-is_sign-clause-rest
returns-else-is_sign-clause-rest c =
    let none = c.first-first.ensures.test is_sign sign_test ∙ sym c.if-is_sign.ensures in
    rw none refl
