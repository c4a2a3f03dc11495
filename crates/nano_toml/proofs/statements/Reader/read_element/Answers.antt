use Rattle.std.proofs.Common.{refl, subst, [], ◌∷◌}
use Rattle.std.proofs.lemmas.Result.{err_from_is_err_and}
use Rattle.nano_toml.specs.Cut.{CutsNothing}
use Rattle.nano_toml.specs.Place.{closed, closing, element_prefix, remaining}
use Rattle.nano_toml.specs.Statements.{element}
use Rattle.nano_toml.specs.Reading.{token_of}
use Rattle.nano_toml.specs.Token.{ident, close_bracket}
use Rattle.nano_toml.proofs.NameCut.{NoName-from, Took-no_name, not_name}
use Rattle.nano_toml.proofs.ReadLemmas.{GoesOn-first, GoesOn-token, Parses-closed, ParsesNothing-on}
use Rattle.nano_toml.proofs.ReadLemmas.{ParsesNothing-cut, ParsesNothing-fails, ParsesNothing-token}
use Rattle.nano_toml.proofs.ReadLemmas.{ParsesNothing-closing}
use Rattle.nano_toml.proofs.Broken.{no_element}
use Rattle.nano_toml.proofs.StopLemmas.{Stops-on, Stops-token, Stops-looked, Stops-fails}
use Rattle.nano_toml.proofs.StopLemmas.{Stops-closing, can_find_element}
use Rattle.nano_toml.proofs.statements.Reader.read_element.Goals as goal

pub returns-in_err-read_token-clause-rejected : goal.returns-in_err-read_token-clause-rejected
returns-in_err-read_token-clause-rejected c =
    let looked = NoName-from c.next_name.result (remaining c.args.self.now.cursor) (remaining c.next_name.new.self) c.in_default.is c.next_name.ensures.none c.next_name.ensures.no_name in
    let p = err_from_is_err_and c.from_residual.result c.from_residual.ensures.1 in
    rw (p.1, p.2) (λ n. ParsesNothing-cut element_prefix (remaining c.args.self.now.cursor) (subst CutsNothing looked.same (c.in_err-read_token.ensures.rejected n)))

pub returns-in_default-clause-rejected : goal.returns-in_default-clause-rejected
returns-in_default-clause-rejected c =
    let text = remaining c.args.self.now.cursor in
    let now = remaining c.next_name.new.self in
    let rest = remaining c.read_token.new.self.cursor in
    let t = c.in_ok-read_token.field-0 in
    let looked = NoName-from c.next_name.result (remaining c.args.self.now.cursor) (remaining c.next_name.new.self) c.in_default.is c.next_name.ensures.none c.next_name.ensures.no_name in
    λ n. ParsesNothing-fails element_prefix text rest (token_of t) (Took-no_name text now rest (token_of t) looked c.in_ok-read_token.ensures.cut) (no_element t (not_name text now rest t looked c.in_ok-read_token.ensures.cut))

pub returns-in_err-read_close_bracket-clause-rejected : goal.returns-in_err-read_close_bracket-clause-rejected
returns-in_err-read_close_bracket-clause-rejected c =
    let next = closing (closed (element c.in-Some.key.now)) in
    let p = err_from_is_err_and c.from_residual-in_err-read_close_bracket.result c.from_residual-in_err-read_close_bracket.ensures.1 in
    rw (p.1, p.2) (λ n. ParsesNothing-token element_prefix (closing next) (remaining c.args.self.now.cursor) (remaining c.next_name.new.self) (ident c.in-Some.key.now) c.in-Some.ensures.cut (λ more. refl) (ParsesNothing-closing next (remaining c.next_name.new.self) (c.in_err-read_close_bracket.ensures.rejected n)))

pub returns-in_err-read_close_bracket-2-clause-rejected : goal.returns-in_err-read_close_bracket-2-clause-rejected
returns-in_err-read_close_bracket-2-clause-rejected c =
    let last = closed (element c.in-Some.key.now) in
    let text = remaining c.args.self.now.cursor in
    let now = remaining c.next_name.new.self in
    let first = remaining c.read_close_bracket.new.self.cursor in
    let one = GoesOn-first element_prefix (closing (closing last)) text now (ident c.in-Some.key.now) c.in-Some.ensures.cut (λ more. refl) in
    let two = GoesOn-token element_prefix (closing (closing last)) (closing last) text now first close_bracket one c.in_ok-read_close_bracket.ensures.cut (λ more. refl) in
    let p = err_from_is_err_and c.from_residual-in_err-read_close_bracket-2.result c.from_residual-in_err-read_close_bracket-2.ensures.1 in
    rw (p.1, p.2) (λ n. ParsesNothing-on element_prefix (closing last) text first two (ParsesNothing-closing last first (c.in_err-read_close_bracket-2.ensures.rejected n)))

pub returns-clause-found : goal.returns-clause-found
returns-clause-found c =
    let key = c.in-Some.key.now in
    let last = closed (element key) in
    let text = remaining c.args.self.now.cursor in
    let now = remaining c.next_name.new.self in
    let first = remaining c.read_close_bracket.new.self.cursor in
    let rest = remaining c.read_close_bracket-2.new.self.cursor in
    let one = GoesOn-first element_prefix (closing (closing last)) text now (ident key) c.in-Some.ensures.cut (λ more. refl) in
    let two = GoesOn-token element_prefix (closing (closing last)) (closing last) text now first close_bracket one c.in_ok-read_close_bracket.ensures.cut (λ more. refl) in
    Parses-closed element_prefix last text rest (element key) (GoesOn-token element_prefix (closing last) last text first rest close_bracket two c.in_ok-read_close_bracket-2.ensures.cut (λ more. refl)) (λ more. refl)

pub returns-in_err-read_token-clause-stops : goal.returns-in_err-read_token-clause-stops
returns-in_err-read_token-clause-stops c =
    let looked = NoName-from c.next_name.result (remaining c.args.self.now.cursor) (remaining c.next_name.new.self) c.in_default.is c.next_name.ensures.none c.next_name.ensures.no_name in
    let rest = remaining c.read_token.new.self.cursor in
    let p = err_from_is_err_and c.from_residual.result c.from_residual.ensures.1 in
    rw (p.1, p.2) (λ n. Stops-looked element_prefix _ (remaining c.args.self.now.cursor) _ rest can_find_element looked.same (c.in_err-read_token.ensures.broken n))

pub returns-in_default-clause-stops : goal.returns-in_default-clause-stops
returns-in_default-clause-stops c =
    let text = remaining c.args.self.now.cursor in
    let now = remaining c.next_name.new.self in
    let rest = remaining c.read_token.new.self.cursor in
    let t = c.in_ok-read_token.field-0 in
    let looked = NoName-from c.next_name.result (remaining c.args.self.now.cursor) (remaining c.next_name.new.self) c.in_default.is c.next_name.ensures.none c.next_name.ensures.no_name in
    λ n. Stops-fails element_prefix t text rest can_find_element (Took-no_name text now rest (token_of t) looked c.in_ok-read_token.ensures.cut) (no_element t (not_name text now rest t looked c.in_ok-read_token.ensures.cut))

pub returns-in_err-read_close_bracket-clause-stops : goal.returns-in_err-read_close_bracket-clause-stops
returns-in_err-read_close_bracket-clause-stops c =
    let key = c.in-Some.key.now in
    let next = closing (closed (element key)) in
    let now = remaining c.next_name.new.self in
    let rest = remaining c.read_close_bracket.new.self.cursor in
    let p = err_from_is_err_and c.from_residual-in_err-read_close_bracket.result c.from_residual-in_err-read_close_bracket.ensures.1 in
    rw (p.1, p.2) (λ n. Stops-token element_prefix (closing next) _ (remaining c.args.self.now.cursor) now rest (ident key) c.in-Some.ensures.cut (λ more. refl) (Stops-closing next _ now rest (close_bracket ∷ []) (element key) refl (c.in_err-read_close_bracket.ensures.rejects n)))

pub returns-in_err-read_close_bracket-2-clause-stops : goal.returns-in_err-read_close_bracket-2-clause-stops
returns-in_err-read_close_bracket-2-clause-stops c =
    let key = c.in-Some.key.now in
    let last = closed (element key) in
    let text = remaining c.args.self.now.cursor in
    let now = remaining c.next_name.new.self in
    let first = remaining c.read_close_bracket.new.self.cursor in
    let rest = remaining c.read_close_bracket-2.new.self.cursor in
    let one = GoesOn-first element_prefix (closing (closing last)) text now (ident key) c.in-Some.ensures.cut (λ more. refl) in
    let two = GoesOn-token element_prefix (closing (closing last)) (closing last) text now first close_bracket one c.in_ok-read_close_bracket.ensures.cut (λ more. refl) in
    let p = err_from_is_err_and c.from_residual-in_err-read_close_bracket-2.result c.from_residual-in_err-read_close_bracket-2.ensures.1 in
    rw (p.1, p.2) (λ n. Stops-on element_prefix (closing last) _ text first rest two (Stops-closing last _ first rest [] (element key) refl (c.in_err-read_close_bracket-2.ensures.rejects n)))
