use Rattle.std.proofs.Common.{refl, ℕ, List, subst}
use Rattle.std.proofs.lemmas.Result.{err_from_is_err_and}
use Rattle.nano_toml.specs.Place.{value_prefix, pair_of, pair_prefix, remaining}
use Rattle.nano_toml.specs.Reading.{name_view}
use Rattle.nano_toml.specs.Statements.{pair}
use Rattle.nano_toml.specs.Stops.{StandsNext}
use Rattle.nano_toml.specs.Token.{equals}
use Rattle.nano_toml.specs.Data.{view}
use Rattle.nano_toml.proofs.ReadLemmas.{Parses-token, Parses-pair, ParsesNothing-token}
use Rattle.nano_toml.proofs.ReadLemmas.{ParsesNothing-pair}
use Rattle.nano_toml.proofs.StopLemmas.{Stops-equals, ParsesNothing-equals, Stops-token, Stops-pair}
use Rattle.nano_toml.proofs.statements.Reader.read_pair.Goals as goal

pub returns-then-not-next_separator-clause-rejected : goal.returns-then-not-next_separator-clause-rejected
returns-then-not-next_separator-clause-rejected c =
    λ n. ParsesNothing-equals (name_view c.args.name) (remaining c.args.self.now.cursor) (c.if-not-next_separator.ensures.no_separator refl equals refl)

pub returns-then-not-next_separator-clause-stops : goal.returns-then-not-next_separator-clause-stops
returns-then-not-next_separator-clause-stops c =
    let text = remaining c.args.self.now.cursor in
    let now = remaining c.unexpected.new.self.cursor in
    let stands = subst (λ (t : List ℕ). StandsNext c.unexpected.result t now) (c.if-not-next_separator.ensures.none refl) c.unexpected.ensures in
    λ n. Stops-equals (name_view c.args.name) c.unexpected.result text now n stands (c.if-not-next_separator.ensures.no_separator refl equals refl)

pub returns-in_err-value-clause-rejected : goal.returns-in_err-value-clause-rejected
returns-in_err-value-clause-rejected c =
    let name = name_view c.args.name in
    let text = remaining c.args.self.now.cursor in
    let now = remaining c.next_separator.new.self in
    let cut = c.if-not-next_separator.ensures.cut refl equals refl in
    let p = err_from_is_err_and c.from_residual.result c.from_residual.ensures.1 in
    rw (p.1, p.2) (λ n. ParsesNothing-token (pair_prefix name) (λ ts. pair_of name (value_prefix ts)) text now equals cut (λ more. refl) (ParsesNothing-pair name now (c.in_err-value.ensures.rejected n)))

pub returns-in_err-value-clause-stops : goal.returns-in_err-value-clause-stops
returns-in_err-value-clause-stops c =
    let name = name_view c.args.name in
    let text = remaining c.args.self.now.cursor in
    let now = remaining c.next_separator.new.self in
    let rest = remaining c.read_value.new.self.cursor in
    let cut = c.if-not-next_separator.ensures.cut refl equals refl in
    let p = err_from_is_err_and c.from_residual.result c.from_residual.ensures.1 in
    rw (p.1, p.2) (λ n. Stops-token (pair_prefix name) (λ ts. pair_of name (value_prefix ts)) _ text now rest equals cut (λ more. refl) (Stops-pair name _ now rest (c.in_err-value.ensures.stops n)))

pub returns-clause-found : goal.returns-clause-found
returns-clause-found c =
    let name = name_view c.args.name in
    let text = remaining c.args.self.now.cursor in
    let now = remaining c.next_separator.new.self in
    let rest = remaining c.read_value.new.self.cursor in
    let means = view c.in_ok-value.value in
    let cut = c.if-not-next_separator.ensures.cut refl equals refl in
    Parses-token (pair_prefix name) (λ ts. pair_of name (value_prefix ts)) text now rest equals (pair name means) cut (λ more. refl) (Parses-pair name now rest means c.in_ok-value.ensures.found)
