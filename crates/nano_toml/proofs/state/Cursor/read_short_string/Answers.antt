use Rattle.std.proofs.Common.{sym, ◌∙◌, ap, false, string_bytes, eq-eqb, ◌==◌, ℕ}
use Rattle.nano_toml.specs.Place.{remaining}
use Rattle.nano_toml.specs.Characters.{is_quote}
use Rattle.nano_toml.specs.Scan.{short_at}
use Rattle.nano_toml.proofs.ByteTests.{quote_test, backslash_test}
use Rattle.nano_toml.proofs.Places.{past_this}
use Rattle.nano_toml.proofs.RunPrefixes.{short_run}
use Rattle.nano_toml.proofs.state.Cursor.read_short_string.Goals as goal

pub returns-in-0-clause-rejected : goal.returns-in-0-clause-rejected
returns-in-0-clause-rejected c = λ _. sym c.pieces.invariant.same ∙ ap (short_at (string_bytes c.pieces.text) false) (c.first.ensures.end c.in-0.is)

pub returns-in-34-clause-found : goal.returns-in-34-clause-found
returns-in-34-clause-found c =
    let quote = c.first.ensures.test is_quote quote_test ∙ eq-eqb _ 34 c.in-34.is in
    sym c.pieces.invariant.same ∙ ap (short_at (string_bytes c.pieces.text) false) (past_this 34 (remaining c.pieces.self) (remaining c.next.new.self) c.next.result c.next.ensures.taken c.next.ensures.end quote)

pub read_escaped-requires : goal.read_escaped-requires
read_escaped-requires c = c.first.ensures.test (λ (d : ℕ). d == 92) backslash_test ∙ eq-eqb _ 92 c.in-92.is

pub pieces-preserved : goal.pieces-preserved
pieces-preserved c = record {
  same = rw (c.in_ok-append_plain-in_default.ensures.text, c.in_ok-append_plain-in_default.ensures.rest) (sym (short_run (string_bytes c.pieces.text) (remaining c.pieces.self)) ∙ c.pieces.invariant.same);
}
