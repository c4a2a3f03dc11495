use Rattle.std.proofs.Common.{rules, ◌<◌, ◌^◌, ℕ, List, SomeIff, ◌∙◌, ap, subst, length}
use Rattle.std.specs.Char.{is_ascii_digit}
use Rattle.std.specs.Option.{option_map}
use Rattle.std.specs.Str.Parse.{digits_value}
use Rattle.nano_text.specs.Characters.{prefix, following}
use Rattle.nano_text.specs.Scan.{after_whole, after_fraction, after_exponent, fraction_at}
use Rattle.nano_text.specs.Scan.{exponent_at, exponent_len, after_run}
use Rattle.nano_text.specs.ScanLaws.{run_at}
use Rattle.nano_text.proofs.PlaceLaws.{moves_append}
use Rattle.nano_text.proofs.run.take_run.Goals as goal

pub returns-clause-sign : goal.returns-clause-sign
unfolding run_at
returns-clause-sign c = c.take_sign-sign.ensures.sign

pub returns-clause-whole : goal.returns-clause-whole
unfolding run_at
returns-clause-whole c = c.take_digits-whole.ensures.len ∙ ap (λ (t : List ℕ). length (prefix is_ascii_digit t)) c.take_sign-sign.ensures.rest

pub returns-clause-value : goal.returns-clause-value
unfolding run_at
returns-clause-value c =
    subst (λ (t : List ℕ). SomeIff c.take_digits-whole.result.value (digits_value 10 (prefix is_ascii_digit t) < 2 ^ 64) (digits_value 10 (prefix is_ascii_digit t))) c.take_sign-sign.ensures.rest c.take_digits-whole.ensures.value

pub returns-clause-fraction : goal.returns-clause-fraction
unfolding run_at after_whole
returns-clause-fraction c =
    c.take_fraction-fraction.ensures.found ∙ ap (λ (t : List ℕ). option_map length (fraction_at t)) (c.take_digits-whole.ensures.rest ∙ ap (following is_ascii_digit) c.take_sign-sign.ensures.rest)

pub returns-clause-exponent : goal.returns-clause-exponent
unfolding run_at after_whole
returns-clause-exponent c =
    let after_digits = c.take_digits-whole.ensures.rest ∙ ap (following is_ascii_digit) c.take_sign-sign.ensures.rest in
    c.take_exponent-exponent.ensures.found ∙ ap (λ (t : List ℕ). option_map exponent_len (exponent_at t)) (c.take_fraction-fraction.ensures.rest ∙ ap after_fraction after_digits)

pub returns-clause-rest : goal.returns-clause-rest
unfolding after_run after_whole
returns-clause-rest c =
    let after_digits = c.take_digits-whole.ensures.rest ∙ ap (following is_ascii_digit) c.take_sign-sign.ensures.rest in
    c.take_exponent-exponent.ensures.rest ∙ ap after_exponent (c.take_fraction-fraction.ensures.rest ∙ ap after_fraction after_digits)

pub returns-clause-place : goal.returns-clause-place
returns-clause-place c = search (rules, moves_append)
