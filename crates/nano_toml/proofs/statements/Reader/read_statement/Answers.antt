use Rattle.std.proofs.Common.{◌≡◌, ◌<◌, ◌≤◌, ℕ, List, Some, ◌∷◌, length, refl, string_bytes, subst}
use Rattle.std.proofs.Common.{arith}
use Rattle.std.proofs.lemmas.Result.{err_from_is_err_and}
use Rattle.nano_toml.specs.StatementTable.{IsPlain}
use Rattle.nano_toml.specs.Cut.{Cut, CutsNothing}
use Rattle.nano_toml.specs.Place.{Prefix, Parses, ParsesNothing, pair_prefix, header_prefix}
use Rattle.nano_toml.specs.Place.{statement_prefix, remaining}
use Rattle.nano_toml.specs.Reading.{statement_view, IsNext, EncodesNothing, token_of}
use Rattle.nano_toml.specs.Statements.{Statement}
use Rattle.nano_toml.specs.Token.{Token, ident, string, open_bracket}
use Rattle.nano_toml.specs.declared.token.TomlTok.TheVariants as tok
use Rattle.nano_toml.proofs.CutLaws.{Cut-shorter, cut_in_one_way}
use Rattle.nano_toml.proofs.SeparatorCut.{NoOpening-from, not_open}
use Rattle.nano_toml.proofs.NameCut.{NoName-from, Took-no_name, not_name}
use Rattle.nano_toml.proofs.ReadLemmas.{Took-at, token_not_at_end, Parses-token, Parses-shorter}
use Rattle.nano_toml.proofs.ReadLemmas.{ParsesNothing-fails, ParsesNothing-token, IsNext-some}
use Rattle.nano_toml.proofs.ReadLemmas.{IsNext-none, EncodesNothing-some, EncodesNothing-cut}
use Rattle.nano_toml.proofs.ReadLemmas.{Parses-plain}
use Rattle.nano_toml.proofs.Broken.{no_statement}
use Rattle.nano_toml.proofs.StopLemmas.{Stops-token, Stops-looked, Stops-fails, can_find_statement}
use Rattle.nano_toml.proofs.statements.Reader.read_statement.Goals as goal

-- a statement that begins with this token, and what comes after the token
pub record Begun (text rest : List ℕ) (s : Statement) : Type 0 where
  pub next : IsNext text (Some s) rest
  pub plain : IsPlain s
  pub shorter : length rest < length text
  pub reads : Parses statement_prefix text s rest

begun : (prefix : List Token → Prefix Statement) (text now rest : List ℕ) (t : Token) (s : Statement) → Cut text t now → ((more : List Token) → statement_prefix (t ∷ more) ≡ prefix more) → Parses prefix now s rest → Begun text rest s
begun prefix text now rest t s cut on reads =
    let whole = Parses-token statement_prefix prefix text now rest t s cut on reads in
    let one : length now < length text = Cut-shorter text t now cut in
    let more : length rest ≤ length now = Parses-shorter prefix now rest s reads in
    record { next = IsNext-some text rest s whole; plain = Parses-plain text rest s whole; shorter = omega (arith, one, more); reads = whole }

not_begun : (prefix : List Token → Prefix Statement) (text now : List ℕ) (t : Token) → Cut text t now → ((more : List Token) → statement_prefix (t ∷ more) ≡ prefix more) → ParsesNothing prefix now → EncodesNothing text
not_begun prefix text now t cut on none = EncodesNothing-some text (ParsesNothing-token statement_prefix prefix text now t cut on none) (λ e. (cut_in_one_way text).1 t now cut e)

pub returns-in-Some : goal.returns-in-Some
returns-in-Some c =
    let name = c.in-Some.name.now in
    let text = remaining c.args.self.now.cursor in
    let now = remaining c.next_name.new.self in
    let cut : Cut text (ident name) now = c.in-Some.ensures.cut in
    let means = statement_view c.in_ok-read_pair.field-0 in
    let one = begun (pair_prefix name) text now (remaining c.read_pair.new.self.cursor) (ident name) means cut (λ more. refl) c.in_ok-read_pair.ensures.found in
    record { found = one.next; rejected = tt; stops = tt; reads = one.reads; plain = one.plain; shorter = one.shorter }

pub returns-in_err-read_pair-clause-rejected : goal.returns-in_err-read_pair-clause-rejected
returns-in_err-read_pair-clause-rejected c =
    let name = c.in-Some.name.now in
    let text = remaining c.args.self.now.cursor in
    let now = remaining c.next_name.new.self in
    let cut : Cut text (ident name) now = c.in-Some.ensures.cut in
    let p = err_from_is_err_and c.from_residual.result c.from_residual.ensures.1 in
    rw (p.1, p.2) (λ n. not_begun (pair_prefix name) text now (ident name) cut (λ more. refl) (c.in_err-read_pair.ensures.rejected n))

pub returns-then-next_separator : goal.returns-then-next_separator
returns-then-next_separator c =
    let text = remaining c.args.self.now.cursor in
    let now = remaining c.next_separator.new.self in
    let looked = NoName-from c.next_name.result (remaining c.args.self.now.cursor) (remaining c.next_name.new.self) c.in_default.is c.next_name.ensures.none c.next_name.ensures.no_name in
    let cut : Cut text open_bracket now = subst (λ (t : List ℕ). Cut t open_bracket now) looked.same (c.if-next_separator.ensures.cut refl open_bracket refl) in
    let means = statement_view c.in_ok-read_header.field-0 in
    let one = begun header_prefix text now (remaining c.read_header.new.self.cursor) open_bracket means cut (λ more. refl) c.in_ok-read_header.ensures.found in
    record { found = one.next; rejected = tt; stops = tt; reads = one.reads; plain = one.plain; shorter = one.shorter }

pub returns-in_err-read_header-clause-rejected : goal.returns-in_err-read_header-clause-rejected
returns-in_err-read_header-clause-rejected c =
    let text = remaining c.args.self.now.cursor in
    let now = remaining c.next_separator.new.self in
    let looked = NoName-from c.next_name.result (remaining c.args.self.now.cursor) (remaining c.next_name.new.self) c.in_default.is c.next_name.ensures.none c.next_name.ensures.no_name in
    let cut : Cut text open_bracket now = subst (λ (t : List ℕ). Cut t open_bracket now) looked.same (c.if-next_separator.ensures.cut refl open_bracket refl) in
    let p = err_from_is_err_and c.from_residual-in_err-read_header.result c.from_residual-in_err-read_header.ensures.1 in
    rw (p.1, p.2) (λ n. not_begun header_prefix text now open_bracket cut (λ more. refl) (c.in_err-read_header.ensures.rejected n))

pub returns-in_ok-read_pair-in-Str : goal.returns-in_ok-read_pair-in-Str
returns-in_ok-read_pair-in-Str c =
    let name = string_bytes c.in-Str.name in
    let text = remaining c.args.self.now.cursor in
    let now = remaining c.read_token.new.self.cursor in
    let looked = NoOpening-from (remaining c.args.self.now.cursor) (remaining c.next_name.new.self) (remaining c.next_separator.new.self) (NoName-from c.next_name.result (remaining c.args.self.now.cursor) (remaining c.next_name.new.self) c.in_default.is c.next_name.ensures.none c.next_name.ensures.no_name)
    (c.if-next_separator.ensures.none refl) (c.if-next_separator.ensures.no_separator refl open_bracket refl) in
    let cut = Took-at text now c.in_ok-tok.tok (tok.Str c.in-Str.name) c.in-Str.is (Took-no_name text (remaining c.next_separator.new.self) now (token_of c.in_ok-tok.tok) looked.no_name c.in_ok-tok.ensures.cut) in
    let means = statement_view c.in_ok-read_pair-in-Str.field-0 in
    let one = begun (pair_prefix name) text now (remaining c.read_pair-in-Str.new.self.cursor) (string name) means cut (λ more. refl) c.in_ok-read_pair-in-Str.ensures.found in
    record { found = one.next; rejected = tt; stops = tt; reads = one.reads; plain = one.plain; shorter = one.shorter }

pub returns-in_err-read_pair-in-Str-clause-rejected : goal.returns-in_err-read_pair-in-Str-clause-rejected
returns-in_err-read_pair-in-Str-clause-rejected c =
    let name = string_bytes c.in-Str.name in
    let text = remaining c.args.self.now.cursor in
    let now = remaining c.read_token.new.self.cursor in
    let looked = NoOpening-from (remaining c.args.self.now.cursor) (remaining c.next_name.new.self) (remaining c.next_separator.new.self) (NoName-from c.next_name.result (remaining c.args.self.now.cursor) (remaining c.next_name.new.self) c.in_default.is c.next_name.ensures.none c.next_name.ensures.no_name)
    (c.if-next_separator.ensures.none refl) (c.if-next_separator.ensures.no_separator refl open_bracket refl) in
    let cut = Took-at text now c.in_ok-tok.tok (tok.Str c.in-Str.name) c.in-Str.is (Took-no_name text (remaining c.next_separator.new.self) now (token_of c.in_ok-tok.tok) looked.no_name c.in_ok-tok.ensures.cut) in
    let p = err_from_is_err_and c.from_residual-in_err-read_pair-in-Str.result c.from_residual-in_err-read_pair-in-Str.ensures.1 in
    rw (p.1, p.2) (λ n. not_begun (pair_prefix name) text now (string name) cut (λ more. refl) (c.in_err-read_pair-in-Str.ensures.rejected n))

pub returns-in_err-tok-clause-rejected : goal.returns-in_err-tok-clause-rejected
returns-in_err-tok-clause-rejected c =
    let looked = NoOpening-from (remaining c.args.self.now.cursor) (remaining c.next_name.new.self) (remaining c.next_separator.new.self) (NoName-from c.next_name.result (remaining c.args.self.now.cursor) (remaining c.next_name.new.self) c.in_default.is c.next_name.ensures.none c.next_name.ensures.no_name)
    (c.if-next_separator.ensures.none refl) (c.if-next_separator.ensures.no_separator refl open_bracket refl) in
    let p = err_from_is_err_and c.from_residual-in_err-tok.result c.from_residual-in_err-tok.ensures.1 in
    rw (p.1, p.2) (λ n. EncodesNothing-cut (remaining c.args.self.now.cursor) (subst CutsNothing looked.no_name.same (c.in_err-tok.ensures.rejected n)))

pub returns-in-Eof-clause-found : goal.returns-in-Eof-clause-found
returns-in-Eof-clause-found c =
    let text = remaining c.args.self.now.cursor in
    let now = remaining c.read_token.new.self.cursor in
    let looked = NoOpening-from (remaining c.args.self.now.cursor) (remaining c.next_name.new.self) (remaining c.next_separator.new.self) (NoName-from c.next_name.result (remaining c.args.self.now.cursor) (remaining c.next_name.new.self) c.in_default.is c.next_name.ensures.none c.next_name.ensures.no_name)
    (c.if-next_separator.ensures.none refl) (c.if-next_separator.ensures.no_separator refl open_bracket refl) in
    let cut = Took-at text now c.in_ok-tok.tok tok.Eof c.in-Eof.is (Took-no_name text (remaining c.next_separator.new.self) now (token_of c.in_ok-tok.tok) looked.no_name c.in_ok-tok.ensures.cut) in
    IsNext-none text now cut

pub returns-in_default-2-clause-rejected : goal.returns-in_default-2-clause-rejected
returns-in_default-2-clause-rejected c =
    let text = remaining c.args.self.now.cursor in
    let now = remaining c.next_separator.new.self in
    let rest = remaining c.read_token.new.self.cursor in
    let t = c.in_ok-tok.tok in
    let looked = NoOpening-from (remaining c.args.self.now.cursor) (remaining c.next_name.new.self) (remaining c.next_separator.new.self) (NoName-from c.next_name.result (remaining c.args.self.now.cursor) (remaining c.next_name.new.self) c.in_default.is c.next_name.ensures.none c.next_name.ensures.no_name)
    (c.if-next_separator.ensures.none refl) (c.if-next_separator.ensures.no_separator refl open_bracket refl) in
    let took = Took-no_name text now rest (token_of t) looked.no_name c.in_ok-tok.ensures.cut in
    λ n. EncodesNothing-some text
    (ParsesNothing-fails statement_prefix text rest (token_of t) took (no_statement t (not_name text now rest t looked.no_name c.in_ok-tok.ensures.cut) c.in_default-2.not-Str (not_open text now rest t looked c.in_ok-tok.ensures.cut)))
    (token_not_at_end text rest t c.in_default-2.not-Eof took)

-- ---- where it stops

pub returns-in_err-read_pair-clause-stops : goal.returns-in_err-read_pair-clause-stops
returns-in_err-read_pair-clause-stops c =
    let name = c.in-Some.name.now in
    let text = remaining c.args.self.now.cursor in
    let now = remaining c.next_name.new.self in
    let cut : Cut text (ident name) now = c.in-Some.ensures.cut in
    let p = err_from_is_err_and c.from_residual.result c.from_residual.ensures.1 in
    rw (p.1, p.2) (λ n. Stops-token statement_prefix (pair_prefix name) _ text now (remaining c.read_pair.new.self.cursor) (ident name) cut (λ more. refl) (c.in_err-read_pair.ensures.stops n))

pub returns-in_err-read_header-clause-stops : goal.returns-in_err-read_header-clause-stops
returns-in_err-read_header-clause-stops c =
    let text = remaining c.args.self.now.cursor in
    let now = remaining c.next_separator.new.self in
    let looked = NoName-from c.next_name.result (remaining c.args.self.now.cursor) (remaining c.next_name.new.self) c.in_default.is c.next_name.ensures.none c.next_name.ensures.no_name in
    let cut : Cut text open_bracket now = subst (λ (t : List ℕ). Cut t open_bracket now) looked.same (c.if-next_separator.ensures.cut refl open_bracket refl) in
    let p = err_from_is_err_and c.from_residual-in_err-read_header.result c.from_residual-in_err-read_header.ensures.1 in
    rw (p.1, p.2) (λ n. Stops-token statement_prefix header_prefix _ text now (remaining c.read_header.new.self.cursor) open_bracket cut (λ more. refl) (c.in_err-read_header.ensures.stops n))

pub returns-in_err-read_pair-in-Str-clause-stops : goal.returns-in_err-read_pair-in-Str-clause-stops
returns-in_err-read_pair-in-Str-clause-stops c =
    let name = string_bytes c.in-Str.name in
    let text = remaining c.args.self.now.cursor in
    let now = remaining c.read_token.new.self.cursor in
    let looked = NoOpening-from (remaining c.args.self.now.cursor) (remaining c.next_name.new.self) (remaining c.next_separator.new.self) (NoName-from c.next_name.result (remaining c.args.self.now.cursor) (remaining c.next_name.new.self) c.in_default.is c.next_name.ensures.none c.next_name.ensures.no_name)
    (c.if-next_separator.ensures.none refl) (c.if-next_separator.ensures.no_separator refl open_bracket refl) in
    let cut = Took-at text now c.in_ok-tok.tok (tok.Str c.in-Str.name) c.in-Str.is (Took-no_name text (remaining c.next_separator.new.self) now (token_of c.in_ok-tok.tok) looked.no_name c.in_ok-tok.ensures.cut) in
    let p = err_from_is_err_and c.from_residual-in_err-read_pair-in-Str.result c.from_residual-in_err-read_pair-in-Str.ensures.1 in
    rw (p.1, p.2) (λ n. Stops-token statement_prefix (pair_prefix name) _ text now (remaining c.read_pair-in-Str.new.self.cursor) (string name) cut (λ more. refl) (c.in_err-read_pair-in-Str.ensures.stops n))

pub returns-in_err-tok-clause-stops : goal.returns-in_err-tok-clause-stops
returns-in_err-tok-clause-stops c =
    let looked = NoOpening-from (remaining c.args.self.now.cursor) (remaining c.next_name.new.self) (remaining c.next_separator.new.self) (NoName-from c.next_name.result (remaining c.args.self.now.cursor) (remaining c.next_name.new.self) c.in_default.is c.next_name.ensures.none c.next_name.ensures.no_name)
    (c.if-next_separator.ensures.none refl) (c.if-next_separator.ensures.no_separator refl open_bracket refl) in
    let rest = remaining c.read_token.new.self.cursor in
    let p = err_from_is_err_and c.from_residual-in_err-tok.result c.from_residual-in_err-tok.ensures.1 in
    rw (p.1, p.2) (λ n. Stops-looked statement_prefix _ (remaining c.args.self.now.cursor) _ rest can_find_statement looked.no_name.same (c.in_err-tok.ensures.broken n))

pub returns-in_default-2-clause-stops : goal.returns-in_default-2-clause-stops
returns-in_default-2-clause-stops c =
    let text = remaining c.args.self.now.cursor in
    let now = remaining c.next_separator.new.self in
    let rest = remaining c.read_token.new.self.cursor in
    let t = c.in_ok-tok.tok in
    let looked = NoOpening-from (remaining c.args.self.now.cursor) (remaining c.next_name.new.self) (remaining c.next_separator.new.self) (NoName-from c.next_name.result (remaining c.args.self.now.cursor) (remaining c.next_name.new.self) c.in_default.is c.next_name.ensures.none c.next_name.ensures.no_name)
    (c.if-next_separator.ensures.none refl) (c.if-next_separator.ensures.no_separator refl open_bracket refl) in
    let took = Took-no_name text now rest (token_of t) looked.no_name c.in_ok-tok.ensures.cut in
    λ n. Stops-fails statement_prefix t text rest can_find_statement took (no_statement t (not_name text now rest t looked.no_name c.in_ok-tok.ensures.cut) c.in_default-2.not-Str (not_open text now rest t looked c.in_ok-tok.ensures.cut))
