use Rattle.std.proofs.Common.{◌==◌, ℕ, ◌∙◌, eq-eqb, ne_eqb}
use Rattle.nano_toml.specs.Place.{remaining}
use Rattle.nano_toml.proofs.ByteTests.{n_test, i_test, past_sign, at_nan, at_infinity, at_digits}
use Rattle.nano_toml.proofs.state.Cursor.read_number.Goals as goal

pub returns-then-first-eq110-clause-rejected : goal.returns-then-first-eq110-clause-rejected
returns-then-first-eq110-clause-rejected c =
    let past = past_sign (remaining c.args.self.now) (remaining c.read_sign-minus.new.self) c.read_sign-minus.result c.read_sign-minus.ensures.minus c.read_sign-minus.ensures.rest in
    let n = c.first-first.ensures.test (λ (d : ℕ). d == 110) n_test ∙ eq-eqb _ 110 c.if-first-eq110.true in
    let here = past ∙ at_nan c.read_sign-minus.result (remaining c.read_sign-minus.new.self) n in
    rw here c.read_nan.ensures.rejected

pub returns-then-first-eq105-clause-rejected : goal.returns-then-first-eq105-clause-rejected
returns-then-first-eq105-clause-rejected c =
    let past = past_sign (remaining c.args.self.now) (remaining c.read_sign-minus.new.self) c.read_sign-minus.result c.read_sign-minus.ensures.minus c.read_sign-minus.ensures.rest in
    let n = c.first-first.ensures.test (λ (d : ℕ). d == 110) n_test ∙ ne_eqb _ 110 c.if-first-eq110.false in
    let i = c.first-first.ensures.test (λ (d : ℕ). d == 105) i_test ∙ eq-eqb _ 105 c.if-first-eq105.true in
    let here = past ∙ at_infinity c.read_sign-minus.result (remaining c.read_sign-minus.new.self) n i in
    rw here c.read_infinity.ensures.rejected

pub returns-clause-found : goal.returns-clause-found
returns-clause-found c =
    let past = past_sign (remaining c.args.self.now) (remaining c.read_sign-minus.new.self) c.read_sign-minus.result c.read_sign-minus.ensures.minus c.read_sign-minus.ensures.rest in
    let n = c.first-first.ensures.test (λ (d : ℕ). d == 110) n_test ∙ ne_eqb _ 110 c.if-first-eq110.false in
    let i = c.first-first.ensures.test (λ (d : ℕ). d == 105) i_test ∙ ne_eqb _ 105 c.if-first-eq105.false in
    let here = past ∙ at_digits c.read_sign-minus.result (remaining c.read_sign-minus.new.self) n i in
    rw here c.read_from_digits.ensures.found

pub returns-clause-rejected : goal.returns-clause-rejected
returns-clause-rejected c =
    let past = past_sign (remaining c.args.self.now) (remaining c.read_sign-minus.new.self) c.read_sign-minus.result c.read_sign-minus.ensures.minus c.read_sign-minus.ensures.rest in
    let n = c.first-first.ensures.test (λ (d : ℕ). d == 110) n_test ∙ ne_eqb _ 110 c.if-first-eq110.false in
    let i = c.first-first.ensures.test (λ (d : ℕ). d == 105) i_test ∙ ne_eqb _ 105 c.if-first-eq105.false in
    let here = past ∙ at_digits c.read_sign-minus.result (remaining c.read_sign-minus.new.self) n i in
    rw here c.read_from_digits.ensures.rejected
