use Rattle.std.proofs.Common.{refl, []}
use Rattle.std.proofs.lemmas.Result.{err_from_is_err_and, IfOk-weaker, IfErr-weaker}
use Rattle.nano_toml.specs.Data.{no_values, view}
use Rattle.nano_toml.specs.Place.{array_prefix, value_prefix, remaining}
use Rattle.nano_toml.specs.Reading.{token_of}
use Rattle.nano_toml.specs.Token.{open_bracket}
use Rattle.nano_toml.specs.declared.token.TomlTok.TheVariants as tok
use Rattle.nano_toml.proofs.ReadLemmas.{Took-at, Parses-scalar, Parses-token, ParsesNothing-cut}
use Rattle.nano_toml.proofs.ReadLemmas.{ParsesNothing-fails, ParsesNothing-token}
use Rattle.nano_toml.proofs.Broken.{no_value}
use Rattle.nano_toml.proofs.StopLemmas.{Stops-token, Stops-broken, Stops-reported, can_find_value}
use Rattle.nano_toml.proofs.statements.Reader.read_value.Goals as goal

pub returns-in_err-tok-clause-rejected : goal.returns-in_err-tok-clause-rejected
returns-in_err-tok-clause-rejected c =
    let p = err_from_is_err_and c.from_residual.result c.from_residual.ensures.1 in
    rw (p.1, p.2) (λ n. ParsesNothing-cut value_prefix (remaining c.args.self.now.cursor) (c.in_err-tok.ensures.rejected n))

pub returns-in-BlockOpen-clause-found : goal.returns-in-BlockOpen-clause-found
returns-in-BlockOpen-clause-found c =
    IfOk-weaker c.read_array.result _ _ (λ value r. Parses-token value_prefix (array_prefix [] no_values) (remaining c.args.self.now.cursor) (remaining c.read_token.new.self.cursor) (remaining c.read_array.new.self.cursor) open_bracket (view value) (Took-at (remaining c.args.self.now.cursor) (remaining c.read_token.new.self.cursor) c.in_ok-tok.tok tok.BlockOpen c.in-BlockOpen.is c.in_ok-tok.ensures.cut) (λ more. refl) r) c.read_array.ensures.found

pub returns-in-BlockOpen-clause-rejected : goal.returns-in-BlockOpen-clause-rejected
returns-in-BlockOpen-clause-rejected c =
    IfErr-weaker c.read_array.result _ _ (λ e r n. ParsesNothing-token value_prefix (array_prefix [] no_values) (remaining c.args.self.now.cursor) (remaining c.read_token.new.self.cursor) open_bracket (Took-at (remaining c.args.self.now.cursor) (remaining c.read_token.new.self.cursor) c.in_ok-tok.tok tok.BlockOpen c.in-BlockOpen.is c.in_ok-tok.ensures.cut) (λ more. refl) (r n)) c.read_array.ensures.rejected

pub returns-in-Ok-clause-found : goal.returns-in-Ok-clause-found
returns-in-Ok-clause-found c =
    Parses-scalar (remaining c.args.self.now.cursor) (remaining c.read_token.new.self.cursor) (token_of c.in_ok-tok.tok) (view c.in-Ok.value) c.in-Ok.ensures.found c.in_ok-tok.ensures.cut

pub returns-in-Err-clause-rejected : goal.returns-in-Err-clause-rejected
returns-in-Err-clause-rejected c =
    λ n. ParsesNothing-fails value_prefix (remaining c.args.self.now.cursor) (remaining c.read_token.new.self.cursor) (token_of c.in_ok-tok.tok) c.in_ok-tok.ensures.cut (no_value c.in_ok-tok.tok c.in-Err.ensures.rejected c.in_default.not-BlockOpen)

pub returns-in_err-tok-clause-stops : goal.returns-in_err-tok-clause-stops
returns-in_err-tok-clause-stops c =
    let p = err_from_is_err_and c.from_residual.result c.from_residual.ensures.1 in
    rw (p.1, p.2) (λ n. Stops-broken value_prefix _ (remaining c.args.self.now.cursor) (remaining c.read_token.new.self.cursor) can_find_value (c.in_err-tok.ensures.broken n))

pub returns-in-BlockOpen-clause-stops : goal.returns-in-BlockOpen-clause-stops
returns-in-BlockOpen-clause-stops c =
    IfErr-weaker c.read_array.result _ _ (λ e r n. Stops-token value_prefix (array_prefix [] no_values) e (remaining c.args.self.now.cursor) (remaining c.read_token.new.self.cursor) (remaining c.read_array.new.self.cursor) open_bracket (Took-at (remaining c.args.self.now.cursor) (remaining c.read_token.new.self.cursor) c.in_ok-tok.tok tok.BlockOpen c.in-BlockOpen.is c.in_ok-tok.ensures.cut) (λ more. refl) (r n)) c.read_array.ensures.stops

pub returns-in-Err-clause-stops : goal.returns-in-Err-clause-stops
returns-in-Err-clause-stops c =
    λ n. Stops-reported value_prefix c.in-Err.tok c.in_ok-tok.tok (remaining c.args.self.now.cursor) (remaining c.read_token.new.self.cursor) can_find_value c.in-Err.ensures.same c.in_ok-tok.ensures.cut (no_value c.in_ok-tok.tok c.in-Err.ensures.rejected c.in_default.not-BlockOpen)
