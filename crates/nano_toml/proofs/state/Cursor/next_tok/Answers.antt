use Rattle.std.proofs.Common.{◌==◌, [], not, ap, sym, ◌∙◌, refl, ne_eqb, eq-eqb, ℕ}
use Rattle.std.proofs.lemmas.Result.{err_from_is_err_and}
use Rattle.nano_toml.specs.Characters.{starts_word, starts_number, is_quote}
use Rattle.nano_toml.specs.Place.{remaining}
use Rattle.nano_toml.proofs.ByteTests.{next_after_gaps, start_test, number_test, quote_test}
use Rattle.nano_toml.proofs.ByteTests.{some_test}
use Rattle.nano_toml.specs.Scan.{number_at}
use Rattle.nano_toml.specs.Reading.{the_end, token_of}
use Rattle.nano_toml.specs.Cut.{punctuator_token}
use Rattle.nano_toml.proofs.CutLaws.{scanned_cut, scanned_nothing}
use Rattle.nano_toml.proofs.LexemeCut.{string_taken}
use Rattle.nano_toml.proofs.Places.{past_first, past_this}
use Rattle.nano_toml.proofs.BuildLemmas.{word_next, number_next, string_next, punctuator_step}
use Rattle.nano_toml.proofs.BuildLemmas.{no_punctuator_step, punctuator_some, found_cut}
use Rattle.nano_toml.proofs.BuildLemmas.{rejected_cut}
use Rattle.nano_toml.proofs.Broken.{broken_number, broken_string, broken_other}
use Rattle.nano_toml.proofs.state.Cursor.next_tok.Goals as goal

pub returns-then-starts_word-clause-cut : goal.returns-then-starts_word-clause-cut
returns-then-starts_word-clause-cut c =
    let start = c.first-first.ensures.test starts_word start_test ∙ sym c.if-starts_word.ensures in
    scanned_cut _ _ (ap next_after_gaps (sym c.skip.ensures)
    ∙ word_next (remaining c.skip.new.self) _ (remaining c.read_word.new.self) _ start c.read_word.ensures.text c.read_word.ensures.rest c.in_ok-word_token.ensures)

pub returns-then-starts_number-clause-cut : goal.returns-then-starts_number-clause-cut
returns-then-starts_number-clause-cut c =
    let start = c.first-first.ensures.test starts_number number_test ∙ sym c.if-starts_number.ensures in
    found_cut c.read_number.result (remaining c.args.self.now) (remaining c.read_number.new.self) (number_at (remaining c.skip.new.self)) (ap next_after_gaps (sym c.skip.ensures) ∙ number_next (remaining c.skip.new.self) start) c.read_number.ensures.found

pub returns-then-starts_number-clause-rejected : goal.returns-then-starts_number-clause-rejected
returns-then-starts_number-clause-rejected c =
    let start = c.first-first.ensures.test starts_number number_test ∙ sym c.if-starts_number.ensures in
    rejected_cut c.read_number.result (remaining c.args.self.now) (number_at (remaining c.skip.new.self)) (ap next_after_gaps (sym c.skip.ensures) ∙ number_next (remaining c.skip.new.self) start) c.read_number.ensures.rejected

pub returns-in_err-read_string-clause-rejected : goal.returns-in_err-read_string-clause-rejected
returns-in_err-read_string-clause-rejected c =
    let quote = c.first-first.ensures.test is_quote quote_test ∙ eq-eqb _ 34 c.if-first-eq34.true in
    let p = err_from_is_err_and c.from_residual-in_err-read_string.result c.from_residual-in_err-read_string.ensures.1 in
    let past = past_this 34 (remaining c.skip.new.self) (remaining c.next.new.self) c.next.result c.next.ensures.taken c.next.ensures.end quote in
    let at = ap next_after_gaps (sym c.skip.ensures) ∙ string_next (remaining c.skip.new.self) (remaining c.next.new.self) 34 past refl in
    rw (p.1, p.2) (λ n. scanned_nothing (remaining c.args.self.now) (at ∙ ap string_taken (c.in_err-read_string.ensures.rejected n)))

pub returns-then-first-eq34-clause-cut : goal.returns-then-first-eq34-clause-cut
returns-then-first-eq34-clause-cut c =
    let quote = c.first-first.ensures.test is_quote quote_test ∙ eq-eqb _ 34 c.if-first-eq34.true in
    let past = past_this 34 (remaining c.skip.new.self) (remaining c.next.new.self) c.next.result c.next.ensures.taken c.next.ensures.end quote in
    let at = ap next_after_gaps (sym c.skip.ensures) ∙ string_next (remaining c.skip.new.self) (remaining c.next.new.self) 34 past refl in
    scanned_cut (remaining c.args.self.now) _ (at ∙ ap string_taken c.in_ok-read_string.ensures.found)

pub returns-then-first-eq0-clause-cut : goal.returns-then-first-eq0-clause-cut
returns-then-first-eq0-clause-cut c =
    let nothing = c.first-first.ensures.end c.if-first-eq0.true in
    let end = scanned_cut (remaining c.args.self.now) (record { next = the_end; rest = [] }) (ap next_after_gaps (sym c.skip.ensures ∙ nothing)) in
    (end.0, nothing)

pub returns-in-Some-clause-cut : goal.returns-in-Some-clause-cut
returns-in-Some-clause-cut c =
    let some = c.first-first.ensures.test (λ (d : ℕ). not (d == 0)) some_test ∙ ap not (ne_eqb _ 0 c.if-first-eq0.false) in
    let past = past_first (λ (d : ℕ). not (d == 0)) (remaining c.skip.new.self) (remaining c.next-in-Some.new.self) c.next-in-Some.result c.next-in-Some.ensures.taken c.next-in-Some.ensures.end some in
    let at = ap next_after_gaps (sym c.skip.ensures)
    ∙ punctuator_step (remaining c.skip.new.self) (remaining c.next-in-Some.new.self) c.next-in-Some.result c.first-first.result past c.first-first.ensures.test
    (sym c.if-starts_word.ensures) (sym c.if-starts_number.ensures) (ne_eqb _ 34 c.if-first-eq34.false) in
    scanned_cut (remaining c.args.self.now) (record { next = token_of c.in-Some.token; rest = remaining c.next-in-Some.new.self }) (at ∙ punctuator_some (punctuator_token c.first-first.result) _ (token_of c.in-Some.token) c.in-Some.ensures)

pub returns-in-None-clause-rejected : goal.returns-in-None-clause-rejected
returns-in-None-clause-rejected c =
    let at = ap next_after_gaps (sym c.skip.ensures)
    ∙ no_punctuator_step (remaining c.skip.new.self) c.first-first.result c.first-first.ensures.test c.if-first-eq0.false
    (sym c.if-starts_word.ensures) (sym c.if-starts_number.ensures) (ne_eqb _ 34 c.if-first-eq34.false) c.in-None.ensures in
    λ _. scanned_nothing (remaining c.args.self.now) at

pub returns-then-starts_number-clause-broken : goal.returns-then-starts_number-clause-broken
returns-then-starts_number-clause-broken c =
    let start = c.first-first.ensures.test starts_number number_test ∙ sym c.if-starts_number.ensures in
    broken_number c.read_number.result (remaining c.args.self.now) (remaining c.skip.new.self) (remaining c.read_number.new.self) c.skip.ensures start c.read_number.ensures.rejected c.read_number.ensures.reported c.read_number.ensures.remaining

pub returns-in_err-read_string-clause-broken : goal.returns-in_err-read_string-clause-broken
returns-in_err-read_string-clause-broken c =
    let quote = c.first-first.ensures.test is_quote quote_test ∙ eq-eqb _ 34 c.if-first-eq34.true in
    let p = err_from_is_err_and c.from_residual-in_err-read_string.result c.from_residual-in_err-read_string.ensures.1 in
    let past = past_this 34 (remaining c.skip.new.self) (remaining c.next.new.self) c.next.result c.next.ensures.taken c.next.ensures.end quote in
    rw (p.1, p.2) (λ n. broken_string _ (remaining c.args.self.now) (remaining c.skip.new.self) (remaining c.next.new.self) (remaining c.read_string.new.self) c.skip.ensures past (c.in_err-read_string.ensures.rejected n) (c.in_err-read_string.ensures.reported n) (c.in_err-read_string.ensures.remaining n))

pub returns-in-None-clause-broken : goal.returns-in-None-clause-broken
returns-in-None-clause-broken c =
    λ _. broken_other (remaining c.args.self.now) (remaining c.skip.new.self) c.first-first.result c.skip.ensures c.first-first.ensures.test c.if-first-eq0.false
    (sym c.if-starts_word.ensures) (sym c.if-starts_number.ensures) (ne_eqb _ 34 c.if-first-eq34.false) c.in-None.ensures
