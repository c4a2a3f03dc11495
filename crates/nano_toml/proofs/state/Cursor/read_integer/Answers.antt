use Rattle.std.proofs.Common.{ℕ, List, ap, drop, take, sym, ◌∙◌, subst, refl}
use Rattle.std.specs.Str.{IsCharBoundary}
use Rattle.nano_toml.specs.Characters.{is_in_digits}
use Rattle.nano_toml.specs.Place.{remaining}
use Rattle.nano_toml.specs.Number.{value}
use Rattle.nano_toml.specs.Scan.{any_digit, fitting}
use Rattle.nano_toml.proofs.ByteTests.{digits_test}
use Rattle.nano_toml.proofs.RunPrefixes.{run_of, run_bytes}
use Rattle.nano_toml.proofs.Utf8Prefixes.{prefix_ascii}
use Rattle.nano_toml.proofs.state.Cursor.read_integer.Goals as goal

pub split_at-requires : goal.split_at-requires
split_at-requires c =
    let run = run_of is_in_digits digits_test c.args.self.now.rest _ _ _ c.as_str-held.utf8 c.as_str-held.ensures c.as_bytes.ensures.value c.digits_of-digits.ensures.len in
    subst (λ (text : List ℕ). IsCharBoundary text c.digits_of-digits.result.len) (sym c.as_str-held.ensures) run.boundary

pub returns-clause-text : goal.returns-clause-text
returns-clause-text c =
    let run = run_of is_in_digits digits_test c.args.self.now.rest _ _ _ c.as_str-held.utf8 c.as_str-held.ensures c.as_bytes.ensures.value c.digits_of-digits.ensures.len in
    c.split_at.ensures.front ∙ (ap (take c.digits_of-digits.result.len) c.as_str-held.ensures ∙ (run.prefix_is ∙ prefix_ascii is_in_digits digits_test refl (remaining c.args.self.now)))

pub returns-clause-any : goal.returns-clause-any
returns-clause-any c =
    let run = run_bytes is_in_digits _ _ _ c.as_bytes.ensures.value c.digits_of-digits.ensures.len in
    c.digits_of-digits.ensures.any ∙ ap any_digit (sym (c.split_at.ensures.front ∙ run))

pub returns-clause-value : goal.returns-clause-value
returns-clause-value c =
    let run = run_bytes is_in_digits _ _ _ c.as_bytes.ensures.value c.digits_of-digits.ensures.len in
    c.digits_of-digits.ensures.value ∙ ap (λ (bytes : List ℕ). fitting (value bytes)) (sym (c.split_at.ensures.front ∙ run))

pub returns-clause-rest : goal.returns-clause-rest
returns-clause-rest c =
    let run = run_of is_in_digits digits_test c.args.self.now.rest _ _ _ c.as_str-held.utf8 c.as_str-held.ensures c.as_bytes.ensures.value c.digits_of-digits.ensures.len in
    run.after_is c.chars-self.result (c.chars-self.ensures.rest ∙ (c.split_at.ensures.back ∙ ap (drop c.digits_of-digits.result.len) c.as_str-held.ensures))
