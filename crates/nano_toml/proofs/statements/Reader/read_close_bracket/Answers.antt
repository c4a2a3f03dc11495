use Rattle.std.proofs.Common.{refl, ℕ, List, subst}
use Rattle.nano_toml.specs.Place.{remaining}
use Rattle.nano_toml.specs.Stops.{StandsNext}
use Rattle.nano_toml.specs.Token.{close_bracket}
use Rattle.nano_toml.proofs.StopLemmas.{Rejects-close}
use Rattle.nano_toml.proofs.statements.Reader.read_close_bracket.Goals as goal

pub returns-then-not-next_separator-clause-rejected : goal.returns-then-not-next_separator-clause-rejected
returns-then-not-next_separator-clause-rejected c = λ n. c.if-not-next_separator.ensures.no_separator refl close_bracket refl

pub returns-then-not-next_separator-clause-rejects : goal.returns-then-not-next_separator-clause-rejects
returns-then-not-next_separator-clause-rejects c =
    let text = remaining c.args.self.now.cursor in
    let now = remaining c.unexpected.new.self.cursor in
    let stands = subst (λ (t : List ℕ). StandsNext c.unexpected.result t now) (c.if-not-next_separator.ensures.none refl) c.unexpected.ensures in
    λ n. Rejects-close c.unexpected.result text now n stands (c.if-not-next_separator.ensures.no_separator refl close_bracket refl)
