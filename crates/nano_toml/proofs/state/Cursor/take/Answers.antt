use Rattle.std.proofs.Common.{◌≡◌, ◌==◌, ℕ, true, sym, ◌∙◌, arith}
use Rattle.std.proofs.lemmas.Bool.Decides.{nat_tests}
use Rattle.nano_toml.specs.Place.{remaining}
use Rattle.nano_toml.proofs.ByteTests.{char_test}
use Rattle.nano_toml.proofs.Places.{tail_past}
use Rattle.nano_toml.proofs.state.Cursor.take.Goals as goal

pub returns-then-found-clause-found : goal.returns-then-found-clause-found
returns-then-found-clause-found c = sym (c.first.ensures.test (λ (d : ℕ). d == c.args.wanted) (char_test c.args.wanted c.requires.some c.requires.ascii))

pub returns-then-found-clause-rest : goal.returns-then-found-clause-rest
returns-then-found-clause-rest c =
    let yes : (c.first.result == c.args.wanted) ≡ true = grind (arith, nat_tests, c.if-found.true) in
    let here = c.first.ensures.test (λ (d : ℕ). d == c.args.wanted) (char_test c.args.wanted c.requires.some c.requires.ascii) ∙ yes in
    rw yes (tail_past (λ (d : ℕ). d == c.args.wanted) (remaining c.args.self.now) (remaining c.next.new.self) c.next.result c.next.ensures.taken c.next.ensures.end here)

pub returns-else-found-clause-found : goal.returns-else-found-clause-found
returns-else-found-clause-found c = sym (c.first.ensures.test (λ (d : ℕ). d == c.args.wanted) (char_test c.args.wanted c.requires.some c.requires.ascii))
