use Rattle.std.proofs.Common.{◌<◌, ◌^◌, ℕ, List, SomeIff, refl, sym, ◌∙◌, ap, subst, arith, length}
use Rattle.std.specs.Char.{is_ascii_digit}
use Rattle.std.specs.Str.Parse.{digits_value, digits_value_after}
use Rattle.nano_text.specs.Characters.{prefix}
use Rattle.nano_text.specs.Place.{held, text_at}
use Rattle.nano_text.proofs.PlaceLaws.{moves_none}
use Rattle.nano_text.proofs.DigitValues.{digit_from_value, no_digit_from_value, digits-remaining}
use Rattle.nano_text.proofs.DigitValues.{digits_value-remaining}
use Rattle.nano_text.proofs.Prefixes.{prefix_stop, after_stop, prefix_boundary, remaining_after}
use Rattle.nano_text.proofs.Prefixes.{digits_cut, digits_in_line, passes_in_line, advances_over}
use Rattle.nano_text.proofs.RemainingText.{remaining_stop, not_nul}
use Rattle.nano_text.proofs.run.take_digits.Goals as goal

pub returns-in_default-clause-len : goal.returns-in_default-clause-len
returns-in_default-clause-len c =
    let stop = remaining_stop is_ascii_digit c.args.p.now.cur c.args.i.now refl (no_digit_from_value c.args.p.now.cur c.in_default.ensures.value) in
    sym (ap length (prefix_stop is_ascii_digit (text_at c.args.p.now c.args.i.now) stop))

pub returns-in_default-clause-value : goal.returns-in_default-clause-value
returns-in_default-clause-value c =
    let stop = remaining_stop is_ascii_digit c.args.p.now.cur c.args.i.now refl (no_digit_from_value c.args.p.now.cur c.in_default.ensures.value) in
    let none = ap (digits_value 10) (prefix_stop is_ascii_digit (text_at c.args.p.now c.args.i.now) stop) in
    (omega (arith, none), sym none)

pub returns-in_default-clause-rest : goal.returns-in_default-clause-rest
returns-in_default-clause-rest c =
    let stop = remaining_stop is_ascii_digit c.args.p.now.cur c.args.i.now refl (no_digit_from_value c.args.p.now.cur c.in_default.ensures.value) in
    sym (after_stop is_ascii_digit (text_at c.args.p.now c.args.i.now) stop)

pub split_at-requires : goal.split_at-requires
split_at-requires c =
    prefix_boundary is_ascii_digit refl digits_cut c.as_str-text.result.now c.digits_after-more.result.len c.as_str-text.utf8 (c.digits_after-more.ensures.len ∙ ap (λ (bs : List ℕ). length (prefix is_ascii_digit bs)) c.as_bytes.ensures.value)

pub returns-clause-len : goal.returns-clause-len
returns-clause-len c =
    let digit = digit_from_value c.args.p.now.cur c.in-Some.ensures.value.0 in
    let all = digits-remaining c.args.p.now.cur c.args.i.now c.as_str-text.result.now digit c.as_str-text.utf8 c.as_str-text.ensures in
    let count = c.digits_after-more.ensures.len ∙ ap (λ (bs : List ℕ). length (prefix is_ascii_digit bs)) c.as_bytes.ensures.value in
    omega (arith, count, ap length all)

pub returns-clause-value : goal.returns-clause-value
returns-clause-value c =
    let digit = digit_from_value c.args.p.now.cur c.in-Some.ensures.value.0 in
    let first = c.from.ensures ∙ c.in-Some.ensures.value.1 in
    let all = ap (λ (bs : List ℕ). digits_value_after 10 c.from.result (prefix is_ascii_digit bs)) c.as_bytes.ensures.value ∙ digits_value-remaining c.args.p.now.cur c.from.result c.args.i.now c.as_str-text.result.now digit first c.as_str-text.utf8 c.as_str-text.ensures in
    subst (λ (n : ℕ). SomeIff c.digits_after-more.result.value (n < 2 ^ 64) n) all c.digits_after-more.ensures.value

pub returns-clause-rest : goal.returns-clause-rest
returns-clause-rest c =
    let digit = digit_from_value c.args.p.now.cur c.in-Some.ensures.value.0 in
    let count = c.digits_after-more.ensures.len ∙ ap (λ (bs : List ℕ). length (prefix is_ascii_digit bs)) c.as_bytes.ensures.value in
    c.next.ensures.rest ∙ remaining_after is_ascii_digit refl digits_cut c.args.p.now.cur c.digits_after-more.result.len c.args.i.now c.chars.result c.as_str-text.result.now digit c.as_str-text.utf8 c.as_str-text.ensures count (c.chars.ensures.rest ∙ c.split_at.ensures.back)

pub returns-in_default-clause-place : goal.returns-in_default-clause-place
returns-in_default-clause-place c = moves_none c.args.p.now c.args.i.now

pub returns-clause-place : goal.returns-clause-place
returns-clause-place c =
    let text = c.as_str-text.result.now in
    let count = c.digits_after-more.ensures.len ∙ ap (λ (bs : List ℕ). length (prefix is_ascii_digit bs)) c.as_bytes.ensures.value in
    let left = c.chars.ensures.rest ∙ c.split_at.ensures.back in
    let some = not_nul is_ascii_digit c.args.p.now.cur refl (digit_from_value c.args.p.now.cur c.in-Some.ensures.value.0) in
    advances_over is_ascii_digit refl digits_cut c.args.p.now c.next.new.self c.digits_after-more.result.len c.args.i.now c.chars.result
    c.next.new.i text some c.as_str-text.utf8 c.as_str-text.ensures count left c.next.ensures.held c.next.ensures.rest
    (passes_in_line is_ascii_digit refl digits_cut c.args.p.now _ c.next.new.self c.digits_after-more.result.len c.args.i.now
    c.chars.result text (held c.next.new.i) c.as_str-text.utf8 c.as_str-text.ensures count
    left (digits_in_line text) (omega arith) refl c.saturating_add-p.ensures c.next.ensures.passes)
