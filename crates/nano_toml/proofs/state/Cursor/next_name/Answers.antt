use Rattle.std.proofs.Common.{◌≡◌, Option, IfNone, ap, sym, ◌∙◌, subst, false}
use Rattle.nano_toml.specs.Characters.{starts_word}
use Rattle.nano_toml.specs.Place.{remaining}
use Rattle.nano_toml.proofs.ByteTests.{next_after_gaps, start_test}
use Rattle.nano_toml.specs.Scan.{after_gaps}
use Rattle.nano_toml.specs.Reading.{a_token}
use Rattle.nano_toml.specs.Token.{Token, ident, word_token}
use Rattle.nano_toml.specs.declared.token.TomlTok.{TomlTok}
use Rattle.nano_toml.proofs.CutLaws.{scanned_cut}
use Rattle.nano_toml.proofs.NameCut.{no_word_no_name, value_no_name}
use Rattle.nano_toml.proofs.BuildLemmas.{word_next}
use Rattle.nano_toml.proofs.state.Cursor.next_name.Goals as goal

pub returns-then-not-starts_word-clause-no_name : goal.returns-then-not-starts_word-clause-no_name
returns-then-not-starts_word-clause-no_name c =
    let no_word = c.first.ensures.test starts_word start_test ∙ sym c.if-not-starts_word.ensures in
    no_word_no_name (remaining c.args.self.now) (remaining c.skip.new.self) (c.skip.ensures ∙ ap (after_gaps false) c.again-ahead.ensures) no_word

pub returns-in-Some-clause-no_name : goal.returns-in-Some-clause-no_name
returns-in-Some-clause-no_name c =
    let start = c.first.ensures.test starts_word start_test ∙ sym c.if-not-starts_word.ensures in
    value_no_name (remaining c.args.self.now) (remaining c.skip.new.self) _ _ (c.skip.ensures ∙ ap (after_gaps false) c.again-ahead.ensures)
    (word_next (remaining c.skip.new.self) c.read_word-word.result.now (remaining c.read_word-word.new.self) _ start c.read_word-word.ensures.text c.read_word-word.ensures.rest c.in-Some.ensures.value) c.in-Some.ensures.scalar

pub returns-clause-cut : goal.returns-clause-cut
returns-clause-cut c =
    let start = c.first.ensures.test starts_word start_test ∙ sym c.if-not-starts_word.ensures in
    let named = subst (λ (found : Option TomlTok). IfNone found (word_token c.read_word-word.result.now ≡ ident c.read_word-word.result.now)) c.in_default.is c.word_value.ensures.name in
    let name = ap (λ (t : Token). a_token t) (sym named) in
    scanned_cut (remaining c.args.self.now) (record { next = a_token (ident c.read_word-word.result.now); rest = remaining c.read_word-word.new.self })
    (ap next_after_gaps (sym (c.skip.ensures ∙ ap (after_gaps false) c.again-ahead.ensures))
    ∙ word_next (remaining c.skip.new.self) c.read_word-word.result.now (remaining c.read_word-word.new.self) _ start c.read_word-word.ensures.text c.read_word-word.ensures.rest name)
