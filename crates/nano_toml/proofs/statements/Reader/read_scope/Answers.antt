use Rattle.std.proofs.Common.{refl, []}
use Rattle.std.proofs.lemmas.Result.{err_from_is_err_and}
use Rattle.nano_toml.specs.Place.{closed, scope_prefix, remaining}
use Rattle.nano_toml.specs.Reading.{name_view}
use Rattle.nano_toml.specs.Statements.{scope}
use Rattle.nano_toml.specs.Token.{close_bracket}
use Rattle.nano_toml.proofs.ReadLemmas.{GoesOn-first, Parses-closed, ParsesNothing-closing}
use Rattle.nano_toml.proofs.StopLemmas.{Stops-closing}
use Rattle.nano_toml.proofs.statements.Reader.read_scope.Goals as goal

pub returns-in_err-read_close_bracket-clause-rejected : goal.returns-in_err-read_close_bracket-clause-rejected
returns-in_err-read_close_bracket-clause-rejected c =
    let p = err_from_is_err_and c.from_residual.result c.from_residual.ensures.1 in
    rw (p.1, p.2) (λ n. ParsesNothing-closing (closed (scope (name_view c.args.name))) (remaining c.args.self.now.cursor) (c.in_err-read_close_bracket.ensures.rejected n))

pub returns-clause-found : goal.returns-clause-found
returns-clause-found c =
    let name = name_view c.args.name in
    let text = remaining c.args.self.now.cursor in
    let rest = remaining c.read_close_bracket.new.self.cursor in
    Parses-closed (scope_prefix name) (closed (scope name)) text rest (scope name)
    (GoesOn-first (scope_prefix name) (closed (scope name)) text rest close_bracket c.in_ok-read_close_bracket.ensures.cut (λ more. refl)) (λ more. refl)

pub returns-in_err-read_close_bracket-clause-stops : goal.returns-in_err-read_close_bracket-clause-stops
returns-in_err-read_close_bracket-clause-stops c =
    let last = closed (scope (name_view c.args.name)) in
    let p = err_from_is_err_and c.from_residual.result c.from_residual.ensures.1 in
    rw (p.1, p.2) (λ n. Stops-closing last _ (remaining c.args.self.now.cursor) (remaining c.read_close_bracket.new.self.cursor) [] (scope (name_view c.args.name)) refl (c.in_err-read_close_bracket.ensures.rejects n))
