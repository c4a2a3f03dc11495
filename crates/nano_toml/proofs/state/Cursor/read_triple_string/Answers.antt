use Rattle.std.proofs.Common.{ap, sym, ◌∙◌, ◌==◌, ℕ, [], length, arith, string_bytes, eq-eqb}
use Rattle.nano_toml.specs.Characters.{is_quote}
use Rattle.nano_toml.specs.Place.{remaining}
use Rattle.nano_toml.specs.Scan.{triple_at, some_quotes}
use Rattle.nano_toml.proofs.ByteTests.{quote_test, backslash_test, run_is_content, run_closes}
use Rattle.nano_toml.proofs.RunPrefixes.{triple_run}
use Rattle.nano_toml.proofs.Places.{after_shorter}
use Rattle.nano_toml.proofs.state.Cursor.read_triple_string.Goals as goal

pub returns-in-0-clause-rejected : goal.returns-in-0-clause-rejected
returns-in-0-clause-rejected c = λ _. sym c.pieces.invariant.same ∙ ap (triple_at (string_bytes c.pieces.text) (some_quotes [])) (c.first.ensures.end c.in-0.is)

pub read_escaped-requires : goal.read_escaped-requires
read_escaped-requires c = c.first.ensures.test (λ (d : ℕ). d == 92) backslash_test ∙ eq-eqb _ 92 c.in-92.is

pub pieces-smaller-else-branch : goal.pieces-smaller-else-branch
pieces-smaller-else-branch c =
    let quote = c.first.ensures.test is_quote quote_test ∙ eq-eqb _ 34 c.in-34.is in
    omega (arith, ap length c.in_ok-closing_quotes-in-34.ensures.rest, after_shorter is_quote (remaining c.pieces.self) quote)

pub pieces-preserved-else-branch : goal.pieces-preserved-else-branch
pieces-preserved-else-branch c =
    let other = sym c.in_ok-closing_quotes-in-34.ensures.closing ∙ c.if-branch.false in
    record {
      same = rw (c.in_ok-closing_quotes-in-34.ensures.text, c.in_ok-closing_quotes-in-34.ensures.rest, c.if-branch.false)
          (run_is_content (string_bytes c.pieces.text) (remaining c.pieces.self) other ∙ c.pieces.invariant.same);
    }

pub returns-then-branch-clause-found : goal.returns-then-branch-clause-found
returns-then-branch-clause-found c =
    let three = sym c.in_ok-closing_quotes-in-34.ensures.closing ∙ c.if-branch.true in
    rw (c.in_ok-closing_quotes-in-34.ensures.text, c.in_ok-closing_quotes-in-34.ensures.rest, c.if-branch.true)
    (sym c.pieces.invariant.same ∙ run_closes (string_bytes c.pieces.text) (remaining c.pieces.self) three)

pub pieces-preserved : goal.pieces-preserved
pieces-preserved c = record {
  same = rw (c.in_ok-append_plain-in_default.ensures.text, c.in_ok-append_plain-in_default.ensures.rest) (sym (triple_run (string_bytes c.pieces.text) (remaining c.pieces.self)) ∙ c.pieces.invariant.same);
}
