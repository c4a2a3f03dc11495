use Rattle.std.proofs.Common.{◌<◌, ◌≤◌, ◌^◌, neg_ℤ, pos, ◌≡◌, List, ℕ, None, sym, ◌∙◌, ap, refl}
use Rattle.std.proofs.Common.{length, arith}
use Rattle.std.specs.Char.{is_ascii_digit}
use Rattle.std.specs.Str.Parse.{digits_value}
use Rattle.nano_text.specs.declared.number.Number.TheVariants.{I64}
use Rattle.nano_text.specs.Characters.{prefix}
use Rattle.nano_text.specs.Number.{continues}
use Rattle.nano_text.specs.Place.{text_at}
use Rattle.nano_text.proofs.RemainingText.{first_is-remaining}
use Rattle.nano_text.proofs.WholeNumbers.{negative_found}
use Rattle.nano_text.proofs.number.read_other.Goals as goal

pub returns-in-Some-negative-clause-found : goal.returns-in-Some-negative-clause-found
returns-in-Some-negative-clause-found c =
    let e = c.in-Some.ensures in
    let number = c.in-Some-negative.ensures in
    let bytes = c.as_bytes.ensures.value in
    let ends = first_is-remaining (continues None None) c.stand_after.new.p.cur c.stand_after.new.i refl ∙ (ap (continues None None) c.stand_after.ensures.cur ∙ e.ends.0) in
    let value : c.in-Some.ahead.value ≡ digits_value 10 (prefix is_ascii_digit c.as_str.result.now) = e.value ∙ ap (λ (bs : List ℕ). digits_value 10 (prefix is_ascii_digit bs)) bytes in
    let some : 0 < length (prefix is_ascii_digit c.as_str.result.now) = omega (arith, e.some, e.len, ap (λ (bs : List ℕ). length (prefix is_ascii_digit bs)) bytes) in
    let small : digits_value 10 (prefix is_ascii_digit c.as_str.result.now) ≤ 2 ^ 63 = omega (arith, value, number.0) in
    let is = number.1 ∙ ap (λ (n : ℕ). I64 (neg_ℤ (pos n))) value in
    let found = negative_found c.args.p.now.cur c.args.i.now c.as_str.result.now c.as_str.utf8 c.as_str.ensures c.in-Some-negative.number (text_at c.stand_after.new.p c.stand_after.new.i) e.minus some small is c.stand_after.ensures.rest ends in
    (found.0, found.1, λ decimal. let both = sym number.1 ∙ decimal in cc both)

pub returns-in-Some-negative-clause-place : goal.returns-in-Some-negative-clause-place
returns-in-Some-negative-clause-place c = c.stand_after.ensures.place (λ e. omega (arith, e, c.in-Some.ensures.minus))
