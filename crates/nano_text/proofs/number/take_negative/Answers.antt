use Rattle.std.proofs.Common.{◌<◌, ◌≤◌, ◌^◌, neg_ℤ, pos, ◌≡◌, List, ℕ, None, ◌∙◌, ap, refl}
use Rattle.std.proofs.Common.{length, arith, rules, FitsSigned}
use Rattle.std.specs.Int.{w64}
use Rattle.std.proofs.lemmas.Int.{to_z-of_z}
use Rattle.std.specs.Char.{is_ascii_digit}
use Rattle.std.specs.Str.Parse.{digits_value}
use Rattle.nano_text.specs.declared.number.Number.TheVariants.{I64}
use Rattle.nano_text.specs.Characters.{prefix}
use Rattle.nano_text.specs.Number.{continues}
use Rattle.nano_text.specs.Place.{text_at}
use Rattle.nano_text.proofs.RemainingText.{first_is-remaining}
use Rattle.nano_text.proofs.WholeNumbers.{negative_found}
use Rattle.nano_text.proofs.number.take_negative.Goals as goal

pub returns-clause-found : goal.returns-clause-found
returns-clause-found c =
    let e = c.in_ok-ahead.ensures in
    let number = c.in_ok-value.ensures in
    let bytes = c.as_bytes.ensures.value in
    let ends = first_is-remaining (continues None None) c.stand_after.new.p.cur c.stand_after.new.i refl ∙ (ap (continues None None) c.stand_after.ensures.cur ∙ e.ends.0) in
    let value : c.in_ok-ahead.ahead.value ≡ digits_value 10 (prefix is_ascii_digit c.as_str.result.now) = e.value ∙ ap (λ (bs : List ℕ). digits_value 10 (prefix is_ascii_digit bs)) bytes in
    let some : 0 < length (prefix is_ascii_digit c.as_str.result.now) = omega (arith, e.some, e.len, ap (λ (bs : List ℕ). length (prefix is_ascii_digit bs)) bytes) in
    let small : digits_value 10 (prefix is_ascii_digit c.as_str.result.now) ≤ 2 ^ 63 = omega (arith, value, number.0) in
    let fits : FitsSigned w64 c.in_ok-value.value = search rules in
    let back = to_z-of_z w64 c.in_ok-value.value fits in
    let is = ap I64 (back ∙ number.1 ∙ ap (λ (n : ℕ). neg_ℤ (pos n)) value) in
    negative_found c.args.p.now.cur c.args.i.now c.as_str.result.now c.as_str.utf8 c.as_str.ensures _ (text_at c.stand_after.new.p c.stand_after.new.i) e.minus some small is c.stand_after.ensures.rest ends

pub returns-clause-place : goal.returns-clause-place
returns-clause-place c = c.stand_after.ensures.place (λ e. omega (arith, e, c.in_ok-ahead.ensures.minus))
