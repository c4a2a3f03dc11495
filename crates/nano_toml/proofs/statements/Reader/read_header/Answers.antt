use Rattle.std.proofs.Common.{ℕ, List, refl, string_bytes, subst}
use Rattle.std.proofs.lemmas.Result.{err_from_is_err_and, IfOk-weaker, IfErr-weaker}
use Rattle.nano_toml.specs.Cut.{Cut, CutsNothing}
use Rattle.nano_toml.specs.Place.{scope_prefix, element_prefix, header_prefix, remaining}
use Rattle.nano_toml.specs.Reading.{statement_view, token_of}
use Rattle.nano_toml.specs.Token.{ident, string, open_bracket}
use Rattle.nano_toml.specs.declared.token.TomlTok.TheVariants as tok
use Rattle.nano_toml.proofs.SeparatorCut.{NoOpening-from, not_open}
use Rattle.nano_toml.proofs.NameCut.{NoName-from, Took-no_name, not_name}
use Rattle.nano_toml.proofs.ReadLemmas.{Took-at, Parses-token, ParsesNothing-cut}
use Rattle.nano_toml.proofs.ReadLemmas.{ParsesNothing-fails, ParsesNothing-token}
use Rattle.nano_toml.proofs.Broken.{no_header}
use Rattle.nano_toml.proofs.StopLemmas.{Stops-token, Stops-looked, Stops-fails, can_find_header}
use Rattle.nano_toml.proofs.statements.Reader.read_header.Goals as goal

pub returns-in-Some-clause-found : goal.returns-in-Some-clause-found
returns-in-Some-clause-found c =
    let name = c.in-Some.name.now in
    IfOk-weaker c.read_scope.result _ _ (λ s r. Parses-token header_prefix (scope_prefix name) (remaining c.args.self.now.cursor) (remaining c.next_name.new.self) (remaining c.read_scope.new.self.cursor) (ident name) (statement_view s) c.in-Some.ensures.cut (λ more. refl) r) c.read_scope.ensures.found

pub returns-in-Some-clause-rejected : goal.returns-in-Some-clause-rejected
returns-in-Some-clause-rejected c =
    let name = c.in-Some.name.now in
    IfErr-weaker c.read_scope.result _ _ (λ e r n. ParsesNothing-token header_prefix (scope_prefix name) (remaining c.args.self.now.cursor) (remaining c.next_name.new.self) (ident name) c.in-Some.ensures.cut (λ more. refl) (r n)) c.read_scope.ensures.rejected

pub returns-then-next_separator-clause-found : goal.returns-then-next_separator-clause-found
returns-then-next_separator-clause-found c =
    let text = remaining c.args.self.now.cursor in
    let now = remaining c.next_separator.new.self in
    let looked = NoName-from c.next_name.result (remaining c.args.self.now.cursor) (remaining c.next_name.new.self) c.in_default.is c.next_name.ensures.none c.next_name.ensures.no_name in
    let cut = subst (λ (t : List ℕ). Cut t open_bracket now) looked.same (c.if-next_separator.ensures.cut refl open_bracket refl) in
    IfOk-weaker c.read_element.result _ _ (λ s r. Parses-token header_prefix element_prefix text now (remaining c.read_element.new.self.cursor) open_bracket (statement_view s) cut (λ more. refl) r) c.read_element.ensures.found

pub returns-then-next_separator-clause-rejected : goal.returns-then-next_separator-clause-rejected
returns-then-next_separator-clause-rejected c =
    let text = remaining c.args.self.now.cursor in
    let now = remaining c.next_separator.new.self in
    let looked = NoName-from c.next_name.result (remaining c.args.self.now.cursor) (remaining c.next_name.new.self) c.in_default.is c.next_name.ensures.none c.next_name.ensures.no_name in
    let cut = subst (λ (t : List ℕ). Cut t open_bracket now) looked.same (c.if-next_separator.ensures.cut refl open_bracket refl) in
    IfErr-weaker c.read_element.result _ _ (λ e r n. ParsesNothing-token header_prefix element_prefix text now open_bracket cut (λ more. refl) (r n)) c.read_element.ensures.rejected

pub returns-in_err-tok-clause-rejected : goal.returns-in_err-tok-clause-rejected
returns-in_err-tok-clause-rejected c =
    let looked = NoOpening-from (remaining c.args.self.now.cursor) (remaining c.next_name.new.self) (remaining c.next_separator.new.self) (NoName-from c.next_name.result (remaining c.args.self.now.cursor) (remaining c.next_name.new.self) c.in_default.is c.next_name.ensures.none c.next_name.ensures.no_name)
    (c.if-next_separator.ensures.none refl) (c.if-next_separator.ensures.no_separator refl open_bracket refl) in
    let p = err_from_is_err_and c.from_residual.result c.from_residual.ensures.1 in
    rw (p.1, p.2) (λ n. ParsesNothing-cut header_prefix (remaining c.args.self.now.cursor) (subst CutsNothing looked.no_name.same (c.in_err-tok.ensures.rejected n)))

pub returns-in_default-2-clause-rejected : goal.returns-in_default-2-clause-rejected
returns-in_default-2-clause-rejected c =
    let text = remaining c.args.self.now.cursor in
    let now = remaining c.next_separator.new.self in
    let rest = remaining c.read_token.new.self.cursor in
    let t = c.in_ok-tok.tok in
    let looked = NoOpening-from (remaining c.args.self.now.cursor) (remaining c.next_name.new.self) (remaining c.next_separator.new.self) (NoName-from c.next_name.result (remaining c.args.self.now.cursor) (remaining c.next_name.new.self) c.in_default.is c.next_name.ensures.none c.next_name.ensures.no_name)
    (c.if-next_separator.ensures.none refl) (c.if-next_separator.ensures.no_separator refl open_bracket refl) in
    λ n. ParsesNothing-fails header_prefix text rest (token_of t) (Took-no_name text now rest (token_of t) looked.no_name c.in_ok-tok.ensures.cut) (no_header t (not_name text now rest t looked.no_name c.in_ok-tok.ensures.cut) c.in_default-2.not-Str (not_open text now rest t looked c.in_ok-tok.ensures.cut))

pub returns-in-Str-clause-found : goal.returns-in-Str-clause-found
returns-in-Str-clause-found c =
    let name = string_bytes c.in-Str.name in
    let text = remaining c.args.self.now.cursor in
    let now = remaining c.read_token.new.self.cursor in
    let looked = NoOpening-from (remaining c.args.self.now.cursor) (remaining c.next_name.new.self) (remaining c.next_separator.new.self) (NoName-from c.next_name.result (remaining c.args.self.now.cursor) (remaining c.next_name.new.self) c.in_default.is c.next_name.ensures.none c.next_name.ensures.no_name)
    (c.if-next_separator.ensures.none refl) (c.if-next_separator.ensures.no_separator refl open_bracket refl) in
    let cut = Took-at text now c.in_ok-tok.tok (tok.Str c.in-Str.name) c.in-Str.is (Took-no_name text (remaining c.next_separator.new.self) now (token_of c.in_ok-tok.tok) looked.no_name c.in_ok-tok.ensures.cut) in
    IfOk-weaker c.read_scope-in-Str.result _ _ (λ s r. Parses-token header_prefix (scope_prefix name) text now (remaining c.read_scope-in-Str.new.self.cursor) (string name) (statement_view s) cut (λ more. refl) r) c.read_scope-in-Str.ensures.found

pub returns-in-Str-clause-rejected : goal.returns-in-Str-clause-rejected
returns-in-Str-clause-rejected c =
    let name = string_bytes c.in-Str.name in
    let text = remaining c.args.self.now.cursor in
    let now = remaining c.read_token.new.self.cursor in
    let looked = NoOpening-from (remaining c.args.self.now.cursor) (remaining c.next_name.new.self) (remaining c.next_separator.new.self) (NoName-from c.next_name.result (remaining c.args.self.now.cursor) (remaining c.next_name.new.self) c.in_default.is c.next_name.ensures.none c.next_name.ensures.no_name)
    (c.if-next_separator.ensures.none refl) (c.if-next_separator.ensures.no_separator refl open_bracket refl) in
    let cut = Took-at text now c.in_ok-tok.tok (tok.Str c.in-Str.name) c.in-Str.is (Took-no_name text (remaining c.next_separator.new.self) now (token_of c.in_ok-tok.tok) looked.no_name c.in_ok-tok.ensures.cut) in
    IfErr-weaker c.read_scope-in-Str.result _ _ (λ e r n. ParsesNothing-token header_prefix (scope_prefix name) text now (string name) cut (λ more. refl) (r n)) c.read_scope-in-Str.ensures.rejected

pub returns-in-Some-clause-stops : goal.returns-in-Some-clause-stops
returns-in-Some-clause-stops c =
    let name = c.in-Some.name.now in
    IfErr-weaker c.read_scope.result _ _ (λ e r n. Stops-token header_prefix (scope_prefix name) e (remaining c.args.self.now.cursor) (remaining c.next_name.new.self) (remaining c.read_scope.new.self.cursor) (ident name) c.in-Some.ensures.cut (λ more. refl) (r n)) c.read_scope.ensures.stops

pub returns-then-next_separator-clause-stops : goal.returns-then-next_separator-clause-stops
returns-then-next_separator-clause-stops c =
    let text = remaining c.args.self.now.cursor in
    let now = remaining c.next_separator.new.self in
    let looked = NoName-from c.next_name.result (remaining c.args.self.now.cursor) (remaining c.next_name.new.self) c.in_default.is c.next_name.ensures.none c.next_name.ensures.no_name in
    let cut = subst (λ (t : List ℕ). Cut t open_bracket now) looked.same (c.if-next_separator.ensures.cut refl open_bracket refl) in
    IfErr-weaker c.read_element.result _ _ (λ e r n. Stops-token header_prefix element_prefix e text now (remaining c.read_element.new.self.cursor) open_bracket cut (λ more. refl) (r n)) c.read_element.ensures.stops

pub returns-in_err-tok-clause-stops : goal.returns-in_err-tok-clause-stops
returns-in_err-tok-clause-stops c =
    let looked = NoOpening-from (remaining c.args.self.now.cursor) (remaining c.next_name.new.self) (remaining c.next_separator.new.self) (NoName-from c.next_name.result (remaining c.args.self.now.cursor) (remaining c.next_name.new.self) c.in_default.is c.next_name.ensures.none c.next_name.ensures.no_name)
    (c.if-next_separator.ensures.none refl) (c.if-next_separator.ensures.no_separator refl open_bracket refl) in
    let rest = remaining c.read_token.new.self.cursor in
    let p = err_from_is_err_and c.from_residual.result c.from_residual.ensures.1 in
    rw (p.1, p.2) (λ n. Stops-looked header_prefix _ (remaining c.args.self.now.cursor) _ rest can_find_header looked.no_name.same (c.in_err-tok.ensures.broken n))

pub returns-in_default-2-clause-stops : goal.returns-in_default-2-clause-stops
returns-in_default-2-clause-stops c =
    let text = remaining c.args.self.now.cursor in
    let now = remaining c.next_separator.new.self in
    let rest = remaining c.read_token.new.self.cursor in
    let t = c.in_ok-tok.tok in
    let looked = NoOpening-from (remaining c.args.self.now.cursor) (remaining c.next_name.new.self) (remaining c.next_separator.new.self) (NoName-from c.next_name.result (remaining c.args.self.now.cursor) (remaining c.next_name.new.self) c.in_default.is c.next_name.ensures.none c.next_name.ensures.no_name)
    (c.if-next_separator.ensures.none refl) (c.if-next_separator.ensures.no_separator refl open_bracket refl) in
    λ n. Stops-fails header_prefix t text rest can_find_header (Took-no_name text now rest (token_of t) looked.no_name c.in_ok-tok.ensures.cut) (no_header t (not_name text now rest t looked.no_name c.in_ok-tok.ensures.cut) c.in_default-2.not-Str (not_open text now rest t looked c.in_ok-tok.ensures.cut))

pub returns-in-Str-clause-stops : goal.returns-in-Str-clause-stops
returns-in-Str-clause-stops c =
    let name = string_bytes c.in-Str.name in
    let text = remaining c.args.self.now.cursor in
    let now = remaining c.read_token.new.self.cursor in
    let looked = NoOpening-from (remaining c.args.self.now.cursor) (remaining c.next_name.new.self) (remaining c.next_separator.new.self) (NoName-from c.next_name.result (remaining c.args.self.now.cursor) (remaining c.next_name.new.self) c.in_default.is c.next_name.ensures.none c.next_name.ensures.no_name)
    (c.if-next_separator.ensures.none refl) (c.if-next_separator.ensures.no_separator refl open_bracket refl) in
    let cut = Took-at text now c.in_ok-tok.tok (tok.Str c.in-Str.name) c.in-Str.is (Took-no_name text (remaining c.next_separator.new.self) now (token_of c.in_ok-tok.tok) looked.no_name c.in_ok-tok.ensures.cut) in
    IfErr-weaker c.read_scope-in-Str.result _ _ (λ e r n. Stops-token header_prefix (scope_prefix name) e text now (remaining c.read_scope-in-Str.new.self.cursor) (string name) cut (λ more. refl) (r n)) c.read_scope-in-Str.ensures.stops
