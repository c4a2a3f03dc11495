use Rattle.std.proofs.Common.{◌++◌, ◌∷◌, [], Some, None, Option, option_map, IfSome, subst}
use Rattle.std.proofs.lemmas.Result.{err_from_is_err_and}
use Rattle.nano_toml.specs.StatementTable.{IsPlain}
use Rattle.nano_toml.specs.Place.{Parses, statement_prefix, remaining}
use Rattle.nano_toml.specs.Reading.{statement_view, IsNext}
use Rattle.nano_toml.specs.declared.statements.Statement.{Statement as Read}
use Rattle.nano_toml.proofs.StatementLists.{IsLawful-from}
use Rattle.nano_toml.proofs.FirstErrors.{ReadTokens-start, ReadTokens-next, first_error}
use Rattle.nano_toml.proofs.FirstErrors.{header_error}
use Rattle.nano_toml.proofs.ReadLemmas.{ReadSoFar-start, ReadSoFar-next, ReadSoFar-end}
use Rattle.nano_toml.proofs.ReadLemmas.{ReadSoFar-nothing, ReadSoFar-unlawful}
use Rattle.nano_toml.proofs.parser.read_table.Goals as goal

pub statements-init : goal.statements-init
statements-init c =
    let text = remaining c.args.reader.now.cursor in
    ([], c.new-builder.ensures, ReadSoFar-start text, ReadTokens-start text)

pub returns-in_err-statement-clause-rejected : goal.returns-in_err-statement-clause-rejected
returns-in_err-statement-clause-rejected c =
    let p = err_from_is_err_and c.from_residual.result c.from_residual.ensures.1 in
    rw (p.1, p.2) (λ n. ReadSoFar-nothing (remaining c.args.reader.now.cursor) (remaining c.statements.reader.cursor) c.statements.invariant.0 c.statements.invariant.2 (c.in_err-statement.ensures.rejected n))

pub statements-preserved : goal.statements-preserved
statements-preserved c =
    let text = remaining c.args.reader.now.cursor in
    let now = remaining c.statements.reader.cursor in
    let rest = remaining c.read_statement.new.self.cursor in
    let done = c.statements.invariant.0 in
    let means = statement_view c.in-Some.statement in
    let next : IsNext now (Some means) rest = subst (λ (found : Option Read). IsNext now (option_map statement_view found) rest) c.in-Some.is c.in_ok-statement.ensures.found in
    let plain : IsPlain means = subst (λ (found : Option Read). IfSome found (λ s. IsPlain (statement_view s))) c.in-Some.is c.in_ok-statement.ensures.plain in
    let reads : Parses statement_prefix now means rest = subst (λ (found : Option Read). IfSome found (λ s. Parses statement_prefix now (statement_view s) rest)) c.in-Some.is c.in_ok-statement.ensures.reads in
    (done ++ means ∷ [], c.in_ok-add.ensures.built done c.statements.invariant.1 plain, ReadSoFar-next text now rest done means c.statements.invariant.2 next, ReadTokens-next text now rest done means c.statements.invariant.3 reads)

pub returns-in_err-add-clause-rejected : goal.returns-in_err-add-clause-rejected
returns-in_err-add-clause-rejected c =
    let text = remaining c.args.reader.now.cursor in
    let now = remaining c.statements.reader.cursor in
    let rest = remaining c.read_statement.new.self.cursor in
    let done = c.statements.invariant.0 in
    let means = statement_view c.in-Some.statement in
    let next : IsNext now (Some means) rest = subst (λ (found : Option Read). IsNext now (option_map statement_view found) rest) c.in-Some.is c.in_ok-statement.ensures.found in
    let p = err_from_is_err_and c.from_residual-in_err-add.result c.from_residual-in_err-add.ensures.1 in
    rw (p.1, p.2) (λ n. ReadSoFar-unlawful text now rest done means c.statements.invariant.2 next (c.in_err-add.ensures.rejected done c.statements.invariant.1 n))

pub returns-clause-found : goal.returns-clause-found
returns-clause-found c =
    let text = remaining c.args.reader.now.cursor in
    let now = remaining c.statements.reader.cursor in
    let rest = remaining c.read_statement.new.self.cursor in
    let done = c.statements.invariant.0 in
    let built = c.statements.invariant.1 in
    let next : IsNext now None rest = subst (λ (found : Option Read). IsNext now (option_map statement_view found) rest) c.in_default.is c.in_ok-statement.ensures.found in
    (done, ReadSoFar-end text now rest done c.statements.invariant.2 next, IsLawful-from done built.lawful, c.in_ok-finish.ensures done built)

pub returns-in_err-statement-clause-error : goal.returns-in_err-statement-clause-error
returns-in_err-statement-clause-error c =
    let text = remaining c.args.reader.now.cursor in
    let now = remaining c.statements.reader.cursor in
    let rest = remaining c.read_statement.new.self.cursor in
    let p = err_from_is_err_and c.from_residual.result c.from_residual.ensures.1 in
    rw (p.1, p.2) (λ n. first_error text now rest c.statements.invariant.0 _ c.statements.invariant.3 (IsLawful-from c.statements.invariant.0 c.statements.invariant.1.lawful) (c.in_err-statement.ensures.rejected n) (c.in_err-statement.ensures.stops n))

pub returns-in_err-add-clause-error : goal.returns-in_err-add-clause-error
returns-in_err-add-clause-error c =
    let text = remaining c.args.reader.now.cursor in
    let now = remaining c.statements.reader.cursor in
    let rest = remaining c.read_statement.new.self.cursor in
    let done = c.statements.invariant.0 in
    let built = c.statements.invariant.1 in
    let means = statement_view c.in-Some.statement in
    let reads : Parses statement_prefix now means rest = subst (λ (found : Option Read). IfSome found (λ s. Parses statement_prefix now (statement_view s) rest)) c.in-Some.is c.in_ok-statement.ensures.reads in
    let p = err_from_is_err_and c.from_residual-in_err-add.result c.from_residual-in_err-add.ensures.1 in
    rw (p.1, p.2) (λ n.
    let reported = c.in_err-add.ensures.reported n in
    header_error text now rest done means reported.0 c.statements.invariant.3 reads reported.1 (IsLawful-from done built.lawful) (c.in_err-add.ensures.rejected done built n []))
