use Rattle.std.proofs.Common.{◌≤ℤ◌, ◌∙◌, FitsSigned, subst, sym, refl}
use Rattle.std.specs.Int.{w64}
use Rattle.std.proofs.lemmas.Int.{to_z-of_z}
use Rattle.nano_value.specs.Meaning.{number}
use Rattle.nano_grammar.specs.Outcomes.{Read}
use Rattle.nano_grammar.proofs.ScalarsLaws.{inside, range_fits, fits_range}
use Rattle.nano_grammar.proofs.TokenCalls.{passed_on}
use Rattle.nano_grammar.proofs.ReadingCalls.{one_read, one_not, one_stopped}
use Rattle.nano_json_tokens.specs.Cut.{Cut}
use Rattle.nano_json_tokens.proofs.JsonLaws.{json}
use Rattle.nano_json_tokens.specs.Outcomes.{position}
use Rattle.nano_json_tokens.proofs.ScalarsLaws.{signed_tokens}
use Rattle.nano_json.specs.ScalarCodecs.{signed}
use Rattle.nano_json.proofs.signed.read_signed.Goals as goal

pub narrow-requires : goal.narrow-requires
narrow-requires g c =
    let ok = c.in_ok-number.ensures in
    let low = subst (λ m. m ≤ℤ c.in_ok-number.number) (to_z-of_z w64 c.args.min c.ranges.min) ok.1 in
    let high = subst (λ m. c.in_ok-number.number ≤ℤ m) (to_z-of_z w64 c.args.max c.ranges.max) ok.2 in
    let wide = to_z-of_z w64 c.in_ok-number.number (inside c.args.min c.args.max c.in_ok-number.number c.ranges.min c.ranges.max low high) in
    subst (FitsSigned g.T.Signed.width) (sym wide) (range_fits g.T.Signed.width c.args.min c.args.max c.in_ok-number.number c.requires low high)

pub returns : goal.returns
returns g c =
    let start = position c.args.state.now c.args.input.now in
    let end = position c.next_tok.new.self c.next_tok.new.i in
    let z = c.in_ok-number.number in
    let ok = c.in_ok-number.ensures in
    let w = g.T.Signed.width in
    let low = subst (λ m. m ≤ℤ z) (to_z-of_z w64 c.args.min c.ranges.min) ok.1 in
    let high = subst (λ m. z ≤ℤ m) (to_z-of_z w64 c.args.max c.ranges.max) ok.2 in
    let wide = to_z-of_z w64 z (inside c.args.min c.args.max z c.ranges.min c.ranges.max low high) in
    subst (λ y. Read Cut (signed w).encodes start end (number y)) (sym (c.narrow.ensures ∙ wide))
    (one_read json number signed_tokens.carries (FitsSigned w) z ok.0 (range_fits w c.args.min c.args.max z c.requires low high) c.in_ok-next_tok.ensures)

pub returns-in_err-number : goal.returns-in_err-number
returns-in_err-number g c =
    let h = c.in_err-number.ensures in
    let w = g.T.Signed.width in
    passed_on _ _ c.from_residual.result c.from_residual.ensures.1
    (one_not json number signed_tokens.carries (FitsSigned w) refl (λ z is fits.
    let range = fits_range w c.args.min c.args.max z c.requires fits in
    h.lacks z is (subst (λ m. m ≤ℤ z) (sym (to_z-of_z w64 c.args.min c.ranges.min)) range.0) (subst (λ m. z ≤ℤ m) (sym (to_z-of_z w64 c.args.max c.ranges.max)) range.1)) h.made)

pub returns-in_err-next_tok : goal.returns-in_err-next_tok
returns-in_err-next_tok g c =
    passed_on _ _ c.from_residual-in_err-next_tok.result c.from_residual-in_err-next_tok.ensures.1
    (one_stopped json number signed_tokens.carries (FitsSigned g.T.Signed.width) refl c.in_err-next_tok.ensures.fails)
