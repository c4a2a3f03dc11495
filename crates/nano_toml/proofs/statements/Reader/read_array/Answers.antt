use Rattle.std.proofs.Common.{◌≡◌, ap, sym, refl, ◌∙◌, [], ◌∷◌, arith}
use Rattle.std.proofs.lemmas.Result.{err_from_is_err_and}
use Rattle.std.proofs.lemmas.List.{nil_from_length}
use Rattle.nano_toml.specs.Data.{no_values, values, view, values_view}
use Rattle.nano_toml.specs.Place.{closed, is_open, push_value, array_prefix, remaining}
use Rattle.nano_toml.specs.Reading.{arrays_view, token_of}
use Rattle.nano_toml.specs.Token.{open_bracket, close_bracket, comma}
use Rattle.nano_toml.specs.declared.token.TomlTok.TheVariants as tok
use Rattle.nano_toml.proofs.OneTable.{arrays_view-push, values_view-push, values_view-push_array}
use Rattle.nano_toml.proofs.ReadLemmas.{Took-at, GoesOn-scalar, GoesOn-token, Parses-closed}
use Rattle.nano_toml.proofs.ReadLemmas.{Parses-open, ParsesNothing-on, ParsesNothing-cut}
use Rattle.nano_toml.proofs.ReadLemmas.{ParsesNothing-fails}
use Rattle.nano_toml.proofs.TableViews.{view-SimpleArray}
use Rattle.nano_toml.proofs.Broken.{no_item}
use Rattle.nano_toml.specs.declared.fault.Fault.TheVariants.{Unexpected}
use Rattle.nano_toml.proofs.StopLemmas.{Stops-on, Stops-broken, Stops-reported, can_find_array}
use Rattle.nano_toml.proofs.statements.Reader.read_array.Goals as goal

pub returns-in_err-tok-clause-rejected : goal.returns-in_err-tok-clause-rejected
returns-in_err-tok-clause-rejected c =
    let text = remaining c.args.self.now.cursor in
    let now = remaining c.tokens.self.cursor in
    let outer = arrays_view c.tokens.outer.items [] in
    let here = values_view c.tokens.here.items in
    let start = array_prefix [] no_values in
    let prefix = array_prefix outer here in
    let p = err_from_is_err_and c.from_residual.result c.from_residual.ensures.1 in
    rw (p.1, p.2) (λ n. ParsesNothing-on start prefix text now c.tokens.invariant (ParsesNothing-cut prefix now (c.in_err-tok.ensures.rejected n)))

pub tokens-preserved-in-Comma : goal.tokens-preserved-in-Comma
tokens-preserved-in-Comma c =
    let text = remaining c.args.self.now.cursor in
    let now = remaining c.tokens.self.cursor in
    let rest = remaining c.read_token.new.self.cursor in
    let outer = arrays_view c.tokens.outer.items [] in
    let here = values_view c.tokens.here.items in
    let start = array_prefix [] no_values in
    let prefix = array_prefix outer here in
    GoesOn-token start prefix prefix text now rest comma c.tokens.invariant (Took-at now rest c.in_ok-tok.tok tok.Comma c.in-Comma.is c.in_ok-tok.ensures.cut) (λ more. refl)

pub tokens-preserved-in_ok-push-in-BlockOpen : goal.tokens-preserved-in_ok-push-in-BlockOpen
tokens-preserved-in_ok-push-in-BlockOpen c =
    let text = remaining c.args.self.now.cursor in
    let now = remaining c.tokens.self.cursor in
    let rest = remaining c.read_token.new.self.cursor in
    let outer = arrays_view c.tokens.outer.items [] in
    let here = values_view c.tokens.here.items in
    let start = array_prefix [] no_values in
    let prefix = array_prefix outer here in
    let arrays = arrays_view c.push.new.self.items [] in
    let inside = values_view c.replace.new.dest.items in
    let around : arrays ≡ here ∷ outer =
    ap (λ vs. arrays_view vs []) c.in_ok-push-in-BlockOpen.ensures.items
    ∙ (arrays_view-push c.tokens.outer.items c.replace.result [] ∙ ap (λ v. values_view v.items ∷ outer) c.replace.ensures.value) in
    let none : inside ≡ no_values = ap (λ v. values_view v.items) c.replace.ensures.after ∙ ap values_view c.new.ensures.items in
    GoesOn-token start prefix (array_prefix arrays inside) text now rest open_bracket c.tokens.invariant (Took-at now rest c.in_ok-tok.tok tok.BlockOpen c.in-BlockOpen.is c.in_ok-tok.ensures.cut)
    (λ more. sym (ap (λ a. array_prefix a inside more) around ∙ ap (λ v. array_prefix (here ∷ outer) v more) none))

pub returns-in-None-clause-found : goal.returns-in-None-clause-found
returns-in-None-clause-found c =
    let text = remaining c.args.self.now.cursor in
    let now = remaining c.tokens.self.cursor in
    let rest = remaining c.read_token.new.self.cursor in
    let outer = arrays_view c.tokens.outer.items [] in
    let here = values_view c.tokens.here.items in
    let start = array_prefix [] no_values in
    let prefix = array_prefix outer here in
    let means = view-SimpleArray c.tokens.here in
    let none : outer ≡ [] = ap (λ vs. arrays_view vs []) (nil_from_length c.tokens.outer.items (omega (arith, c.in-None.ensures.cases.0, c.tokens.outer.ok.0))) in
    Parses-closed start (closed (values here)) text rest _
    (GoesOn-token start prefix (closed (values here)) text now rest close_bracket c.tokens.invariant (Took-at now rest c.in_ok-tok.tok tok.BlockClose c.in-BlockClose.is c.in_ok-tok.ensures.cut) (λ more. ap (λ a. array_prefix a here (close_bracket ∷ more)) none))
    (λ more. ap (λ d. closed d more) (sym means))

pub tokens-preserved-in-Some : goal.tokens-preserved-in-Some
tokens-preserved-in-Some c =
    let text = remaining c.args.self.now.cursor in
    let now = remaining c.tokens.self.cursor in
    let rest = remaining c.read_token.new.self.cursor in
    let outer = arrays_view c.tokens.outer.items [] in
    let here = values_view c.tokens.here.items in
    let start = array_prefix [] no_values in
    let prefix = array_prefix outer here in
    let arrays = arrays_view c.pop.new.self.items [] in
    let inside = values_view c.push-in-Some.new.self.items in
    let around : outer ≡ values_view c.in-Some.around.items ∷ arrays =
    ap (λ vs. arrays_view vs []) c.in-Some.ensures.items ∙ arrays_view-push c.pop.new.self.items c.in-Some.around [] in
    let pushed : inside ≡ push_value (values_view c.in-Some.around.items) (values here) =
    ap values_view c.in_ok-push-in-Some.ensures.items ∙ values_view-push_array c.in-Some.around.items c.tokens.here in
    GoesOn-token start prefix (array_prefix arrays inside) text now rest close_bracket c.tokens.invariant (Took-at now rest c.in_ok-tok.tok tok.BlockClose c.in-BlockClose.is c.in_ok-tok.ensures.cut)
    (λ more. ap (λ a. array_prefix a here (close_bracket ∷ more)) around ∙ ap (λ v. array_prefix arrays v more) (sym pushed))

pub returns-in-Eof-clause-found : goal.returns-in-Eof-clause-found
returns-in-Eof-clause-found c =
    let text = remaining c.args.self.now.cursor in
    let now = remaining c.tokens.self.cursor in
    let rest = remaining c.read_token.new.self.cursor in
    let outer = arrays_view c.tokens.outer.items [] in
    let here = values_view c.tokens.here.items in
    let start = array_prefix [] no_values in
    let prefix = array_prefix outer here in
    Parses-open start prefix text now rest (view c.in_ok-close_all-in-Eof.field-0) c.tokens.invariant (Took-at now rest c.in_ok-tok.tok tok.Eof c.in-Eof.is c.in_ok-tok.ensures.cut) (ap is_open (sym c.in_ok-close_all-in-Eof.ensures))

pub tokens-preserved : goal.tokens-preserved
tokens-preserved c =
    let text = remaining c.args.self.now.cursor in
    let now = remaining c.tokens.self.cursor in
    let rest = remaining c.read_token.new.self.cursor in
    let outer = arrays_view c.tokens.outer.items [] in
    let here = values_view c.tokens.here.items in
    let start = array_prefix [] no_values in
    let prefix = array_prefix outer here in
    let pushed = ap values_view c.in_ok-push-in-Ok.ensures.items ∙ values_view-push c.tokens.here.items c.in-Ok.value in
    rw pushed (GoesOn-scalar start outer here text now rest (token_of c.in_ok-tok.tok) (view c.in-Ok.value) c.in-Ok.ensures.found c.tokens.invariant c.in_ok-tok.ensures.cut)

pub returns-in-Err-clause-rejected : goal.returns-in-Err-clause-rejected
returns-in-Err-clause-rejected c =
    let text = remaining c.args.self.now.cursor in
    let now = remaining c.tokens.self.cursor in
    let rest = remaining c.read_token.new.self.cursor in
    let outer = arrays_view c.tokens.outer.items [] in
    let here = values_view c.tokens.here.items in
    let start = array_prefix [] no_values in
    let prefix = array_prefix outer here in
    λ n. ParsesNothing-on start prefix text now c.tokens.invariant
    (ParsesNothing-fails prefix now rest (token_of c.in_ok-tok.tok) c.in_ok-tok.ensures.cut
    (no_item outer here c.in_ok-tok.tok c.in-Err.ensures.rejected c.in_default.not-Comma c.in_default.not-BlockOpen c.in_default.not-BlockClose c.in_default.not-Eof))

pub returns-in_err-tok-clause-stops : goal.returns-in_err-tok-clause-stops
returns-in_err-tok-clause-stops c =
    let text = remaining c.args.self.now.cursor in
    let now = remaining c.tokens.self.cursor in
    let rest = remaining c.read_token.new.self.cursor in
    let outer = arrays_view c.tokens.outer.items [] in
    let here = values_view c.tokens.here.items in
    let start = array_prefix [] no_values in
    let prefix = array_prefix outer here in
    let p = err_from_is_err_and c.from_residual.result c.from_residual.ensures.1 in
    rw (p.1, p.2) (λ n. Stops-on start prefix _ text now rest c.tokens.invariant (Stops-broken prefix _ now rest (can_find_array outer here) (c.in_err-tok.ensures.broken n)))

pub returns-in-Err-clause-stops : goal.returns-in-Err-clause-stops
returns-in-Err-clause-stops c =
    let text = remaining c.args.self.now.cursor in
    let now = remaining c.tokens.self.cursor in
    let rest = remaining c.read_token.new.self.cursor in
    let outer = arrays_view c.tokens.outer.items [] in
    let here = values_view c.tokens.here.items in
    let start = array_prefix [] no_values in
    let prefix = array_prefix outer here in
    λ n. Stops-on start prefix (Unexpected c.in-Err.tok) text now rest c.tokens.invariant
    (Stops-reported prefix c.in-Err.tok c.in_ok-tok.tok now rest (can_find_array outer here) c.in-Err.ensures.same c.in_ok-tok.ensures.cut
    (no_item outer here c.in_ok-tok.tok c.in-Err.ensures.rejected c.in_default.not-Comma c.in_default.not-BlockOpen c.in_default.not-BlockClose c.in_default.not-Eof))
