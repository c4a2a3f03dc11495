use Rattle.std.proofs.Common.{FitsSigned, to_z, of_z, refl, sym, subst, rules, [], ◌∷◌}
use Rattle.std.specs.Int.{w64}
use Rattle.std.proofs.lemmas.Int.{to_z-of_z}
use Rattle.nano_text.specs.Place.{text_at}
use Rattle.nano_text.proofs.PlaceLaws.{moves_append}
use Rattle.nano_grammar.specs.Plain.{TookPlainly}
use Rattle.nano_grammar.proofs.Plain.{one_taken}
use Rattle.nano_grammar.proofs.ScalarsLaws.{in_order}
use Rattle.nano_json_tokens.specs.Cut.{Cut}
use Rattle.nano_json_tokens.specs.Scan.{AnInteger}
use Rattle.nano_json_tokens.proofs.PlainCalls.{after_space}
use Rattle.nano_json_tokens.proofs.plain.take_plain_integer.Goals as goal

pub returns : goal.returns
returns c =
    let z = c.in_ok-number.number in
    let found = c.in_ok-number.ensures.found in
    let fits : FitsSigned w64 z = search rules in
    let as_read = to_z-of_z w64 z fits in
    let low = in_order (to_z w64 (of_z w64 c.args.min)) c.args.min (to_z w64 (of_z w64 z)) z (to_z-of_z w64 c.args.min c.ranges.min) as_read c.if-number-min.false in
    let high = in_order (to_z w64 (of_z w64 z)) z (to_z w64 (of_z w64 c.args.max)) c.args.max as_read (to_z-of_z w64 c.args.max c.ranges.max) c.if-max-number.false in
    let is : AnInteger c.args.min c.args.max (found.0 ∷ []) z = (found.0, refl, found.1, low, high) in
    let taken = one_taken Cut (AnInteger c.args.min c.args.max) found.0 is (after_space found.0 c.skip_space.ensures.rest found.2) in (
      subst (λ y. TookPlainly Cut (AnInteger c.args.min c.args.max) (text_at c.args.place.now c.args.input.now) (text_at c.take_integer.new.place c.take_integer.new.input) y) (sym as_read) taken,
      moves_append c.skip_space.ensures.counts c.in_ok-number.ensures.counts,
    )
