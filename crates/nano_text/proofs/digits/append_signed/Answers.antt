use Rattle.std.proofs.Common.{◌≡◌, pos, true, false, [], ◌∷◌, ◌++◌, ◌∙◌, sym, ap, subst}
use Rattle.std.proofs.Common.{string_bytes, encode_utf8_all}
use Rattle.std.specs.Fmt.{decimal}
use Rattle.std.specs.Int.{w64}
use Rattle.std.specs.Int.Signed.{lt_z}
use Rattle.std.proofs.Math.IntN.{nat_abs}
use Rattle.std.proofs.lemmas.Fmt.{IsAscii-signed}
use Rattle.std.proofs.lemmas.Int.{to_z-of_z}
use Rattle.std.proofs.lemmas.Str.{encodes-IsAscii}
use Rattle.nano_text.proofs.DigitValues.{appended_as, with_sign, no_sign}
use Rattle.nano_text.proofs.digits.append_signed.Goals as goal

pub returns-then-value-lt0-clause-ok : goal.returns-then-value-lt0-clause-ok
returns-then-value-lt0-clause-ok c =
    let same = to_z-of_z w64 c.args.value c.ranges.value in
    let negative = subst (λ z. lt_z z (pos 0) ≡ true) same c.if-value-lt0.true in
    let size = c.unsigned_abs.ensures.value ∙ ap nat_abs same in
    let digits = with_sign c.args.value negative ∙ ap (λ n. (45 ∷ []) ++ decimal n) (sym size) in
    appended_as c.append_negative.result (string_bytes c.args.out.now) (string_bytes c.append_negative.new.out) _ _ c.append_negative.ensures.ok (encodes-IsAscii _ (IsAscii-signed c.args.value c.ranges.value.sfits) ∙ digits)

pub returns-clause-ok : goal.returns-clause-ok
returns-clause-ok c =
    let same = to_z-of_z w64 c.args.value c.ranges.value in
    let positive = subst (λ z. lt_z z (pos 0) ≡ false) same c.if-value-lt0.false in
    let size = c.unsigned_abs-2.ensures.value ∙ ap nat_abs same in
    let digits = no_sign c.args.value positive ∙ ap decimal (sym size) in
    appended_as c.append_unsigned.result (string_bytes c.args.out.now) (string_bytes c.append_unsigned.new.out) _ _ c.append_unsigned.ensures.ok (ap encode_utf8_all digits)
