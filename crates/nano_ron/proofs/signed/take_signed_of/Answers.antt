use Rattle.std.proofs.Common.{◌≤ℤ◌, ◌∙◌, FitsSigned, to_z, of_z, subst, sym, refl}
use Rattle.std.specs.Int.{w64}
use Rattle.std.proofs.lemmas.Int.{to_z-of_z}
use Rattle.nano_value.specs.Meaning.{number}
use Rattle.nano_grammar.specs.Plain.{TookPlainly}
use Rattle.nano_grammar.proofs.ScalarsLaws.{inside, range_fits}
use Rattle.nano_grammar.proofs.Plain.{taken_as}
use Rattle.nano_ron_tokens.specs.Cut.{Cut}
use Rattle.nano_text.specs.Place.{text_at}
use Rattle.nano_ron_tokens.specs.Scan.{AnInteger}
use Rattle.nano_ron.specs.ScalarCodecs.{signed}
use Rattle.nano_ron.proofs.signed.take_signed_of.Goals as goal

pub narrow-requires : goal.narrow-requires
narrow-requires g c =
    let z = c.in_ok-number.number in
    let ok = c.in_ok-number.ensures.0.1 in
    let low = subst (λ m. m ≤ℤ z) (to_z-of_z w64 c.args.min c.ranges.min) ok.3 in
    let high = subst (λ m. z ≤ℤ m) (to_z-of_z w64 c.args.max c.ranges.max) ok.4 in
    let wide = to_z-of_z w64 z (inside c.args.min c.args.max z c.ranges.min c.ranges.max low high) in
    subst (FitsSigned g.T.Signed.width) (sym wide) (range_fits g.T.Signed.width c.args.min c.args.max z c.requires low high)

pub returns : goal.returns
returns g c =
    let z = c.in_ok-number.number in
    let start = text_at c.args.place.now c.args.input.now in
    let end = text_at c.take_plain_integer.new.place c.take_plain_integer.new.input in
    let ok = c.in_ok-number.ensures.0.1 in
    let w = g.T.Signed.width in
    let low = subst (λ m. m ≤ℤ z) (to_z-of_z w64 c.args.min c.ranges.min) ok.3 in
    let high = subst (λ m. z ≤ℤ m) (to_z-of_z w64 c.args.max c.ranges.max) ok.4 in
    let wide = to_z-of_z w64 z (inside c.args.min c.args.max z c.ranges.min c.ranges.max low high) in
    let fits = range_fits w c.args.min c.args.max z c.requires low high in (
      subst (λ y. TookPlainly Cut (signed w).encodes start end (number y)) (sym (c.narrow.ensures ∙ wide))
          (taken_as Cut (AnInteger (to_z w64 (of_z w64 c.args.min)) (to_z w64 (of_z w64 c.args.max))) (signed w).encodes (λ ts is. record {
            part = z;
            has = record { token = is.0; one = is.1; carries_it = is.2; has = fits };
            is = refl;
          }) c.in_ok-number.ensures.0),
      c.in_ok-number.ensures.1,
    )
